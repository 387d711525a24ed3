-- Why each slot of the table of claims has the lowest block that counts for it.
use Rattle.std.proofs.Common.{◌≡◌, ℕ, zero, suc, ◌+◌, ◌*◌, ◌<◌, ◌≤◌, Bool, true, false, cond, not, ◌&&◌, eqb, leb, ◌≢◌, List, length, get_or, drop, set, Some, None, Option, sym, refl, ap, ◌∙◌, subst, ap₂, ⊎_elim, arith}
use Rattle.std.proofs.lemmas.List.{length-set, get_or-set_same, get_or-set_other, get_or-replicate, at_drop_more, at_drop_all}
use Rattle.std.proofs.lemmas.Bool.{and_parts, and_from, leb-true, eq-eqb, ne_eqb, cases_eq, cases_Bool, true≢false}
use Rattle.map.specs.Addresses.{sector_of, root_place}
use Rattle.map.specs.Entries.{fits_entry, Named}
use Rattle.map.specs.declared.entry.Entry.{Entry}
use Rattle.map.specs.declared.entry.Entry.TheVariants.{Map, Free, Root, Data}
use Rattle.map.specs.declared.identifier.Identifier.{Identifier}
use Rattle.volume.specs.ClaimTable.{claim_slot, entry_slot, doubled, claimed, filled_to, claimed_from, first_doubled, TableLaw}
use Rattle.volume.specs.Counting.{Entries, counts, for_position, claims, address_or_0}
use Rattle.volume.specs.Rebuilding.{FitVolume}
use Rattle.volume.specs.Search.{lowest, or_else}
use Rattle.volume.proofs.Fitting.{data_fits, claim_for}
use Rattle.volume.proofs.Searching.{lowest_finds}

and_none : (x : Bool) → (x && false) ≡ false
and_none true = refl
and_none false = refl

nothing_else : (o : Option ℕ) → or_else o None ≡ o
nothing_else None = refl
nothing_else (Some b) = refl

-- two root places with one slot are one
slot_apart : (r q p s : ℕ) → root_place r ≡ true → root_place q ≡ true → p < 64 → s < 64 → claim_slot r p ≡ claim_slot q s → (r ≡ q) × (p ≡ s)
slot_apart r q p s rp qp ph sh same =
    let r_low = leb-true 1 (sector_of r) (and_parts (leb 1 (sector_of r)) (leb (sector_of r) 4) rp).0 in
    let r_high = leb-true (sector_of r) 4 (and_parts (leb 1 (sector_of r)) (leb (sector_of r) 4) rp).1 in
    let q_low = leb-true 1 (sector_of q) (and_parts (leb 1 (sector_of q)) (leb (sector_of q) 4) qp).0 in
    let q_high = leb-true (sector_of q) 4 (and_parts (leb 1 (sector_of q)) (leb (sector_of q) 4) qp).1 in
    (omega arith, omega arith)

slot_within : (r p : ℕ) → root_place r ≡ true → r < 2048 → p < 64 → claim_slot r p < 16384
slot_within r p place h few =
    let high = leb-true (sector_of r) 4 (and_parts (leb 1 (sector_of r)) (leb (sector_of r) 4) place).1 in omega arith

claimed_long : (E : Entries) (a : ℕ) (e : Entry) (table : List ℕ) → length (claimed E a e table) ≡ length table
claimed_long E a e table = by (counts E e && eqb (get_or table (entry_slot e) 0) 0)
  where
    by : (t : Bool) → length (cond t (set table (entry_slot e) a) table) ≡ length table
    by true = length-set table (entry_slot e) a
    by false = refl

filled_long : (E : Entries) (m : ℕ) → length (filled_to E m) ≡ 16384
unfolding filled_to
filled_long E zero = refl
filled_long E (suc m) = claimed_long E m (E m) (filled_to E m) ∙ filled_long E m

module _ (E : Entries) (cylinders r p : ℕ) (few : cylinders ≤ 64) (fit : FitVolume E cylinders) (place : root_place r ≡ true) (rh : r < 2048) (ph : p < 64) where
  -- one address more
  step : (m : ℕ) → m < 32 * cylinders → (table : List ℕ) → length table ≡ 16384 → (o : Option ℕ) →
      get_or table (claim_slot r p) 0 ≡ address_or_0 o → ((b : ℕ) → o ≡ Some b → 0 < b) →
      get_or (claimed E m (E m) table) (claim_slot r p) 0 ≡ address_or_0 (or_else o (cond (claims E r p m) (Some m) None))
  step m h table long o was positive = by (counts E (E m)) refl
    where
      slot : ℕ
      slot = claim_slot r p

      keep : address_or_0 (or_else o (cond false (Some m) None)) ≡ address_or_0 o
      keep = ap address_or_0 (nothing_else o)

      unclaimed : claims E r p m ≡ false → address_or_0 (or_else o (cond (claims E r p m) (Some m) None)) ≡ address_or_0 o
      unclaimed off = ap (λ t. address_or_0 (or_else o (cond t (Some m) None))) off ∙ keep

      -- the entry counts for this very slot
      here : (q : ℕ) (owner : Identifier) → claim_slot owner.root q ≡ claim_slot r p → claims E r p m ≡ true → (x : Option ℕ) → get_or table (claim_slot r p) 0 ≡ address_or_0 x →
          ((b : ℕ) → x ≡ Some b → 0 < b) →
          get_or (cond (true && eqb (get_or table (claim_slot owner.root q) 0) 0) (set table (claim_slot owner.root q) m) table) (claim_slot r p) 0
          ≡ address_or_0 (or_else x (cond true (Some m) None))
      here q owner same on None is above =
          ap (λ k. get_or (cond (eqb (get_or table k 0) 0) (set table k m) table) (claim_slot r p) 0) same
          ∙ ap (λ t. get_or (cond t (set table (claim_slot r p) m) table) (claim_slot r p) 0) (eq-eqb (get_or table (claim_slot r p) 0) 0 is)
          ∙ get_or-set_same table (claim_slot r p) m 0 (let within = slot_within r p place rh ph in omega arith)
      here q owner same on (Some b) is above =
          ap (λ k. get_or (cond (eqb (get_or table k 0) 0) (set table k m) table) (claim_slot r p) 0) same
          ∙ ap (λ t. get_or (cond t (set table (claim_slot r p) m) table) (claim_slot r p) 0) (ne_eqb (get_or table (claim_slot r p) 0) 0 (λ e. let more = above b refl in omega arith))
          ∙ is

      -- it counts for another
      there : (k : ℕ) → claim_slot r p ≢ k → (t : Bool) → get_or (cond t (set table k m) table) (claim_slot r p) 0 ≡ get_or table (claim_slot r p) 0
      there k ne true = get_or-set_other table k (claim_slot r p) m 0 ne
      there k ne false = refl

      entry : (e : Entry) → E m ≡ e → counts E (E m) ≡ true →
          get_or (cond (counts E e && eqb (get_or table (entry_slot e) 0) 0) (set table (entry_slot e) m) table) (claim_slot r p) 0 ≡ address_or_0 (or_else o (cond (claims E r p m) (Some m) None))
      entry Map at on = absurd (true≢false (sym on ∙ ap (counts E) at))
      entry Free at on = absurd (true≢false (sym on ∙ ap (counts E) at))
      entry (Root state kind commit tag) at on = absurd (true≢false (sym on ∙ ap (counts E) at))
      entry (Data state q owner) at on =
          let f = fit m h in
          let fits = data_fits cylinders m q state owner (ap (fits_entry cylinders m) (sym at) ∙ f.0) (subst Named at f.1) in
          ⊎_elim
          (λ (same : claim_slot owner.root q ≡ claim_slot r p).
          let apart = slot_apart owner.root r q p fits.root place fits.few ph same in
          let mine : claims E r p m ≡ true =
          ap₂ ◌&&◌ (ap (for_position r p) at ∙ and_from (eqb owner.root r) (eqb q p) (eq-eqb owner.root r apart.0) (eq-eqb q p apart.1)) on in
          ap (λ t. get_or (cond (t && eqb (get_or table (claim_slot owner.root q) 0) 0) (set table (claim_slot owner.root q) m) table) (claim_slot r p) 0) (ap (counts E) (sym at) ∙ on)
          ∙ here q owner same mine o was positive
          ∙ sym (ap (λ t. address_or_0 (or_else o (cond t (Some m) None))) mine))
          (λ ne.
          let other : claims E r p m ≡ false =
          ⊎_elim
          (λ (mine : claims E r p m ≡ true).
          let claim = claim_for E r p (E m) mine in
          let same : Data claim.0 p claim.1.0 ≡ Data state q owner = sym claim.1.1 ∙ at in
          let position : q ≡ p = cc in
          let whom : claim.1.0 ≡ owner = cc in
          let root : owner.root ≡ r = ap (λ (id : Identifier). id.root) (sym whom) ∙ claim.1.2 in
          absurd (ne (ap₂ claim_slot root position)))
          (λ off. off)
          (cases_Bool (claims E r p m)) in
          there (claim_slot owner.root q) (λ e. ne (sym e)) (counts E (Data state q owner) && eqb (get_or table (claim_slot owner.root q) 0) 0) ∙ was ∙ sym (unclaimed other))
          (cases_eq (claim_slot owner.root q) (claim_slot r p))

      by : (t : Bool) → counts E (E m) ≡ t → get_or (claimed E m (E m) table) (claim_slot r p) 0 ≡ address_or_0 (or_else o (cond (claims E r p m) (Some m) None))
      by true on = entry (E m) refl on
      by false off =
          ap (λ t. get_or (cond (t && eqb (get_or table (entry_slot (E m)) 0) 0) (set table (entry_slot (E m)) m) table) (claim_slot r p) 0) off
          ∙ was ∙ sym (unclaimed (ap (λ t. for_position r p (E m) && t) off ∙ and_none (for_position r p (E m))))

  -- what has been found so far stands at its slot, and is a data block
  pub filled : (m : ℕ) → m ≤ 32 * cylinders → get_or (filled_to E m) (claim_slot r p) 0 ≡ address_or_0 (lowest (claims E r p) m)
  unfolding filled_to lowest
  filled zero h = get_or-replicate 16384 (claim_slot r p) 0 0 (slot_within r p place rh ph)
  filled (suc m) h =
      step m (omega arith) (filled_to E m) (filled_long E m) (lowest (claims E r p) m) (filled m (omega arith))
      (λ b found.
      let finds = lowest_finds (claims E r p) m b found in
      let claim = claim_for E r p (E b) finds.0 in
      let f = fit b (omega arith) in
      let fits = data_fits cylinders b p claim.0 claim.1.0 (ap (fits_entry cylinders b) (sym claim.1.1) ∙ f.0) (subst Named claim.1.1 f.1) in
      let five : 5 ≤ sector_of b = fits.place in omega arith)

pub table_law : TableLaw
table_law E cylinders r p few fit place rh ph = filled E cylinders r p few fit place rh ph (32 * cylinders) (omega arith)

-- one entry of a map more
module _ (E : Entries) (a i : ℕ) (entries : List Entry) (table : List ℕ) (within : i < length entries) where
  pub more_claimed : claimed_from E (a + i) (drop i entries) table ≡ claimed_from E (a + (i + 1)) (drop (i + 1) entries) (claimed E (a + i) (get_or entries i Map) table)
  unfolding claimed_from
  more_claimed =
      at_drop_more (λ xs. claimed_from E (a + i) xs table) entries i Map within
      ∙ ap (λ b. claimed_from E b (drop (i + 1) entries) (claimed E (a + i) (get_or entries i Map) table)) (omega arith)

  pub more_doubled : first_doubled E (a + i) (drop i entries) table
      ≡ cond (doubled E (get_or entries i Map) table) (Some (a + i)) (first_doubled E (a + (i + 1)) (drop (i + 1) entries) (claimed E (a + i) (get_or entries i Map) table))
  unfolding first_doubled
  more_doubled =
      at_drop_more (λ xs. first_doubled E (a + i) xs table) entries i Map within
      ∙ ap (λ b. cond (doubled E (get_or entries i Map) table) (Some (a + i)) (first_doubled E b (drop (i + 1) entries) (claimed E (a + i) (get_or entries i Map) table))) (omega arith)

-- the first that was found, or this one, or the first of the rest
pub first_of_all : (first : Option ℕ) (twice : Bool) (b : ℕ) (rest : Option ℕ) → or_else (or_else first (cond (not twice) None (Some b))) rest ≡ or_else first (cond twice (Some b) rest)
first_of_all None true b rest = refl
first_of_all None false b rest = refl
first_of_all (Some c) twice b rest = refl

pub none_doubled : (E : Entries) (a i : ℕ) (entries : List Entry) (table : List ℕ) → length entries ≤ i → first_doubled E a (drop i entries) table ≡ None
unfolding first_doubled
none_doubled E a i entries table past = at_drop_all (λ xs. first_doubled E a xs table) entries i past

pub all_claimed : (E : Entries) (a i : ℕ) (entries : List Entry) (table : List ℕ) → length entries ≤ i → claimed_from E a (drop i entries) table ≡ table
unfolding claimed_from
all_claimed E a i entries table past = at_drop_all (λ xs. claimed_from E a xs table) entries i past

pub found_all : (first : Option ℕ) → or_else first None ≡ first
found_all = nothing_else
