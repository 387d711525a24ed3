-- Why the bit of a rebuilt root is set exactly if an entry outside the lost map shows a performed intention.
use Rattle.std.proofs.Common.{◌≡◌, ℕ, zero, suc, ◌+◌, ◌-◌, ◌*◌, ◌<◌, ◌≤◌, Bool, true, false, cond, not, ◌&&◌, ◌||◌, eqb, leb, List, length, get_or, Some, None, Option, sym, refl, ap, ◌∙◌, ap₂, ⊎_elim, arith}
use Rattle.std.proofs.lemmas.List.{get_or-replicate}
use Rattle.std.proofs.lemmas.Bool.{and_parts, and_from, leb-true, eqb-true, eq-eqb, ne_eqb, cases_eq, true≢false}
use Rattle.map.specs.Addresses.{cylinder_of, sector_of, root_place}
use Rattle.map.specs.declared.entry.DataState.TheVariants as data_state
use Rattle.map.specs.declared.entry.Entry.{Entry}
use Rattle.map.specs.declared.entry.Entry.TheVariants.{Map, Free, Root, Data}
use Rattle.object.specs.declared.root.RootBlock.{RootBlock}
use Rattle.object.specs.declared.root.RootBlock.TheVariants.{Dead, Live}
use Rattle.volume.specs.Committing.{marked}
use Rattle.volume.specs.Counting.{Entries}
use Rattle.volume.specs.Rebuilding.{RootBlocks}
use Rattle.volume.specs.Search.{any}
use Rattle.rebuild.specs.Noting.{in_lost, place_kept, places_to, place_of, shown_by, owner_root, shows_bit, bit_noted, noted_to}
use Rattle.rebuild.proofs.Sectors.{changed_long, changed_at, once_past, not_yet, by_now, passing_by, and_one, is_false}

-- a root block shows intentions of its own object only
shown_own : (root : RootBlock) (r b : ℕ) (e : Entry) → shown_by root r b e ≡ true → owner_root e ≡ r
shown_own Dead r b e on = absurd (true≢false (sym on))
shown_own (Live root) r b Map on = absurd (true≢false (sym on))
shown_own (Live root) r b Free on = absurd (true≢false (sym on))
shown_own (Live root) r b (Root state kind commit tag) on = absurd (true≢false (sym on))
shown_own (Live root) r b (Data data_state.Allocated position owner) on = absurd (true≢false (sym on))
shown_own (Live root) r b (Data data_state.IntendingToAllocate position owner) on =
    let own = (and_parts (eqb owner.root r && eqb root.id.tag owner.tag) (eqb (get_or root.blocks position 0) b) on).0 in
    eqb-true owner.root r (and_parts (eqb owner.root r) (eqb root.id.tag owner.tag) own).0
shown_own (Live root) r b (Data data_state.IntendingToDeallocate position owner) on =
    let own = (and_parts (eqb owner.root r && eqb root.id.tag owner.tag) (not (eqb (get_or root.blocks position 0) b)) on).0 in
    eqb-true owner.root r (and_parts (eqb owner.root r) (eqb root.id.tag owner.tag) own).0

-- and only if it is of the lost cylinder
shown_lost : (c : ℕ) (bs : List RootBlock) (r b : ℕ) (e : Entry) → shown_by (place_of c bs r) r b e ≡ true → in_lost c r ≡ true
shown_lost c bs r b e on = by (in_lost c r) refl
  where
    by : (t : Bool) → in_lost c r ≡ t → t ≡ true
    by true is = refl
    by false is = absurd (true≢false (sym on ∙ ap (λ t. shown_by (cond t (get_or bs (sector_of r - 1) Dead) Dead) r b e) is))

module _ (c s : ℕ) (sh : s < 32) (bs : List RootBlock) where
  -- the entry at b shows the bit of this sector
  abbrev pub shows_here : ℕ → Entry → Bool
  shows_here b e = not (eqb (cylinder_of b) c) && shown_by (place_of c bs (32 * c + s)) (32 * c + s) b e

  noted_test : (b : ℕ) (e : Entry) → (shows_bit c bs b e && eqb (sector_of (owner_root e)) s) ≡ shows_here b e
  noted_test b e = ⊎_elim same other (cases_eq (owner_root e) (32 * c + s))
    where
      same : owner_root e ≡ 32 * c + s → (shows_bit c bs b e && eqb (sector_of (owner_root e)) s) ≡ shows_here b e
      same is =
          let sector : sector_of (owner_root e) ≡ s = omega arith in
          ap (λ t. shows_bit c bs b e && t) (eq-eqb (sector_of (owner_root e)) s sector)
          ∙ and_one (shows_bit c bs b e)
          ∙ ap (λ r. not (eqb (cylinder_of b) c) && shown_by (place_of c bs r) r b e) is

      other : (owner_root e ≡ 32 * c + s → ⊥) → (shows_bit c bs b e && eqb (sector_of (owner_root e)) s) ≡ shows_here b e
      other ne =
          is_false (shows_bit c bs b e && eqb (sector_of (owner_root e)) s)
          (λ on.
          let parts = and_parts (shows_bit c bs b e) (eqb (sector_of (owner_root e)) s) on in
          let shown = (and_parts (not (eqb (cylinder_of b) c)) (shown_by (place_of c bs (owner_root e)) (owner_root e) b e) parts.0).1 in
          let lost = and_parts (eqb (cylinder_of (owner_root e)) c) (root_place (owner_root e)) (shown_lost c bs (owner_root e) b e shown) in
          let cylinder = eqb-true (cylinder_of (owner_root e)) c lost.0 in
          let sector = eqb-true (sector_of (owner_root e)) s parts.1 in
          ne (omega arith))
          ∙ sym
          (is_false (shows_here b e)
          (λ on.
          ne
          (shown_own (place_of c bs (32 * c + s)) (32 * c + s) b e
          (and_parts (not (eqb (cylinder_of b) c)) (shown_by (place_of c bs (32 * c + s)) (32 * c + s) b e) on).1)))

  noted_at : (b : ℕ) (e : Entry) (es : List Entry) → length es ≡ 32 →
      get_or (bit_noted c bs b e es) s Map ≡ cond (shows_here b e) (marked (get_or es s Map)) (get_or es s Map)
  noted_at b e es long =
      changed_at es (λ k. marked (get_or es k Map)) Map (sector_of (owner_root e)) s (omega arith) (shows_bit c bs b e)
      ∙ ap (λ t. cond t (marked (get_or es s Map)) (get_or es s Map)) (noted_test b e)

  noted_long : (E : Entries) (m : ℕ) (es : List Entry) → length (noted_to c bs E m es) ≡ length es
  unfolding noted_to
  noted_long E zero es = refl
  noted_long E (suc m) es =
      changed_long (noted_to c bs E m es) (λ k. marked (get_or (noted_to c bs E m es) k Map)) Map (sector_of (owner_root (E m))) (shows_bit c bs m (E m))
      ∙ noted_long E m es

  marked_twice : (e : Entry) → marked (marked e) ≡ marked e
  marked_twice Map = refl
  marked_twice Free = refl
  marked_twice (Root state kind commit tag) = refl
  marked_twice (Data state position owner) = refl

  one_more : (x t : Bool) (e : Entry) → cond t (marked (cond x (marked e) e)) (cond x (marked e) e) ≡ cond (x || t) (marked e) e
  one_more true true e = marked_twice e
  one_more true false e = refl
  one_more false true e = refl
  one_more false false e = refl

  pub noted_sector : (E : Entries) (m : ℕ) (es : List Entry) → length es ≡ 32 →
      get_or (noted_to c bs E m es) s Map ≡ cond (any (λ b. shows_here b (E b)) m) (marked (get_or es s Map)) (get_or es s Map)
  unfolding noted_to any
  noted_sector E zero es long = refl
  noted_sector E (suc m) es long =
      noted_at m (E m) (noted_to c bs E m es) (noted_long E m es ∙ long)
      ∙ ap (λ e. cond (shows_here m (E m)) (marked e) e) (noted_sector E m es long)
      ∙ one_more (any (λ b. shows_here b (E b)) m) (shows_here m (E m)) (get_or es s Map)

-- the root block at a root place, dead if there is none
abbrev pub or_dead : Option RootBlock → RootBlock
or_dead None = Dead
or_dead (Some root) = root

places_long : (c : ℕ) (R : RootBlocks) (m : ℕ) → length (places_to c R m) ≡ 4
unfolding places_to
places_long c R zero = refl
places_long c R (suc m) = by (R m) ∙ places_long c R m
  where
    by : (o : Option RootBlock) → length (place_kept c m o (places_to c R m)) ≡ length (places_to c R m)
    by None = refl
    by (Some root) = changed_long (places_to c R m) (λ k. root) Dead (sector_of m - 1) (in_lost c m)

module _ (c s : ℕ) (sh : s < 32) (R : RootBlocks) (place : root_place (32 * c + s) ≡ true) where
  abbrev after : ℕ → RootBlock
  after = once_past (32 * c + s) (or_dead (R (32 * c + s))) Dead

  sectors : (1 ≤ s) × (s ≤ 4)
  sectors =
      let parts = and_parts (leb 1 (sector_of (32 * c + s))) (leb (sector_of (32 * c + s)) 4) place in
      let low = leb-true 1 (sector_of (32 * c + s)) parts.0 in
      let high = leb-true (sector_of (32 * c + s)) 4 parts.1 in
      (omega arith, omega arith)

  kept_test : (m : ℕ) → (in_lost c m && eqb (sector_of m - 1) (s - 1)) ≡ eqb m (32 * c + s)
  kept_test m = ⊎_elim same other (cases_eq m (32 * c + s))
    where
      same : m ≡ 32 * c + s → (in_lost c m && eqb (sector_of m - 1) (s - 1)) ≡ eqb m (32 * c + s)
      same e =
          let cylinder : cylinder_of m ≡ c = omega arith in
          and_from (in_lost c m) (eqb (sector_of m - 1) (s - 1))
          (and_from (eqb (cylinder_of m) c) (root_place m) (eq-eqb (cylinder_of m) c cylinder) (ap root_place e ∙ place))
          (eq-eqb (sector_of m - 1) (s - 1) (omega arith))
          ∙ sym (eq-eqb m (32 * c + s) e)

      other : (m ≡ 32 * c + s → ⊥) → (in_lost c m && eqb (sector_of m - 1) (s - 1)) ≡ eqb m (32 * c + s)
      other ne =
          is_false (in_lost c m && eqb (sector_of m - 1) (s - 1))
          (λ on.
          let parts = and_parts (in_lost c m) (eqb (sector_of m - 1) (s - 1)) on in
          let lost = and_parts (eqb (cylinder_of m) c) (root_place m) parts.0 in
          let cylinder = eqb-true (cylinder_of m) c lost.0 in
          let low = leb-true 1 (sector_of m) (and_parts (leb 1 (sector_of m)) (leb (sector_of m) 4) lost.1).0 in
          let sector = eqb-true (sector_of m - 1) (s - 1) parts.1 in
          let first = sectors.0 in
          ne (omega arith))
          ∙ sym (ne_eqb m (32 * c + s) ne)

  one_place : (m : ℕ) → get_or (places_to c R m) (s - 1) Dead ≡ after m → (o : Option RootBlock) → R m ≡ o →
      get_or (place_kept c m o (places_to c R m)) (s - 1) Dead ≡ after (suc m)
  one_place m was = by
    where
      other : (m ≡ 32 * c + s → ⊥) → get_or (places_to c R m) (s - 1) Dead ≡ after (suc m)
      other ne = was ∙ sym (passing_by (32 * c + s) (or_dead (R (32 * c + s))) Dead m ne)

      same : (o : Option RootBlock) → R m ≡ o → m ≡ 32 * c + s → or_dead o ≡ after (suc m)
      same o is e = ap or_dead (sym is ∙ ap R e) ∙ sym (by_now (32 * c + s) (or_dead (R (32 * c + s))) Dead (suc m) (omega arith))

      by : (o : Option RootBlock) → R m ≡ o → get_or (place_kept c m o (places_to c R m)) (s - 1) Dead ≡ after (suc m)
      by None is =
          ⊎_elim (λ (e : m ≡ 32 * c + s). was ∙ not_yet (32 * c + s) (or_dead (R (32 * c + s))) Dead m (omega arith) ∙ same None is e) other
          (cases_eq m (32 * c + s))
      by (Some root) is =
          let long = places_long c R m in
          let both = sectors in
          changed_at (places_to c R m) (λ k. root) Dead (sector_of m - 1) (s - 1) (omega arith) (in_lost c m)
          ∙ ap (λ t. cond t root (get_or (places_to c R m) (s - 1) Dead)) (kept_test m)
          ∙ ⊎_elim
          (λ (e : m ≡ 32 * c + s). ap (λ t. cond t root (get_or (places_to c R m) (s - 1) Dead)) (eq-eqb m (32 * c + s) e) ∙ same (Some root) is e)
          (λ (ne : m ≡ 32 * c + s → ⊥). ap (λ t. cond t root (get_or (places_to c R m) (s - 1) Dead)) (ne_eqb m (32 * c + s) ne) ∙ other ne)
          (cases_eq m (32 * c + s))

  places_at : (m : ℕ) → get_or (places_to c R m) (s - 1) Dead ≡ after m
  unfolding places_to
  places_at zero =
      let both = sectors in
      get_or-replicate 4 (s - 1) Dead Dead (omega arith) ∙ sym (not_yet (32 * c + s) (or_dead (R (32 * c + s))) Dead 0 (omega arith))
  places_at (suc m) = one_place m (places_at m) (R m) refl

  -- the root block that is kept for a root place of the lost cylinder is the one that stands there
  pub place_found : (n : ℕ) → 32 * c + s < n → place_of c (places_to c R n) (32 * c + s) ≡ or_dead (R (32 * c + s))
  place_found n h =
      let cylinder : cylinder_of (32 * c + s) ≡ c = omega arith in
      let sector : sector_of (32 * c + s) ≡ s = omega arith in
      ap₂ (λ t k. cond t (get_or (places_to c R n) (k - 1) Dead) Dead)
      (and_from (eqb (cylinder_of (32 * c + s)) c) (root_place (32 * c + s)) (eq-eqb (cylinder_of (32 * c + s)) c cylinder) place) sector
      ∙ places_at n
      ∙ by_now (32 * c + s) (or_dead (R (32 * c + s))) Dead n h
