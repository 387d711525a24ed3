-- Why losing one map loses nothing while root blocks agree with the maps.
use Rattle.std.proofs.Common.{◌≡◌, ℕ, ◌+◌, ◌*◌, ◌/◌, ◌%◌, ◌<◌, ◌≤◌, Bool, true, false, cond, not, ◌&&◌, eqb, ltb, leb, get_or, Some, None, Option, sym, refl, ap, ◌∙◌, subst, ap₂, ⊎_elim, arith}
use Rattle.std.proofs.lemmas.Nat.{mod_below}
use Rattle.std.proofs.lemmas.Bool.{and_parts, and_from, leb-true, eqb-true, eq-eqb, ne_eqb, true≢false, eqb-false, leb-false, and_cases}
use Rattle.map.specs.Addresses.{cylinder_of, sector_of, root_place}
use Rattle.map.specs.Entries.{fits_entry, Named}
use Rattle.map.specs.Identifiers.{is_tag}
use Rattle.map.specs.declared.entry.DataState.{DataState}
use Rattle.map.specs.declared.entry.DataState.TheVariants as data_state
use Rattle.map.specs.declared.entry.Entry.{Entry}
use Rattle.map.specs.declared.entry.Entry.TheVariants.{Map, Free, Root, Data}
use Rattle.map.specs.declared.identifier.Identifier.{Identifier}
use Rattle.object.specs.declared.root.RootBlock.{RootBlock}
use Rattle.object.specs.declared.root.RootBlock.TheVariants.{Dead, Live}
use Rattle.volume.specs.Committing.{state_for}
use Rattle.volume.specs.Counting.{Entries, Held, remains_as, bit, has_tag, state_counts, counts, for_position, claims, counted_at, address_or_0, counted_addresses, due_for}
use Rattle.volume.specs.Search.{lowest}
use Rattle.volume.specs.Rebuilding.{RootBlocks, block_holds, holds, holder, held_entry, data_entry, shows, rebuilt_bit, root_entry, rebuilt_entry, rebuilt, Agree, FitVolume, SingleClaims, LostMapLaw}
use Rattle.volume.proofs.Claiming.{judged, own_claims, gone_claims}
use Rattle.volume.proofs.Fitting.{DataFits, data_fits, claim_for, address_at}
use Rattle.volume.proofs.Sameness.{same_from_claims}
use Rattle.volume.proofs.Searching.{lowest_below, lowest_none, lowest_finds, lowest_only, any_true, any_false}

module _ (E : Entries) (R : RootBlocks) (cylinders c : ℕ) (inside : c < cylinders) (fit : FitVolume E cylinders)
    (single : SingleClaims E (32 * cylinders)) (agree : Agree E R (32 * cylinders)) where
  data_at : (a p : ℕ) (state : DataState) (owner : Identifier) → a < 32 * cylinders → E a ≡ Data state p owner → DataFits cylinders a p owner
  data_at a p state owner h is =
      let f = fit a h in
      data_fits cylinders a p state owner (ap (fits_entry cylinders a) (sym is) ∙ f.0) (subst Named is f.1)

  -- the address that is due for a position is a's exactly if a claims it
  due_address : (r p a : ℕ) → a < 32 * cylinders → 0 < a → eqb (address_or_0 (counted_at E (32 * cylinders) r p)) a ≡ claims E r p a
  due_address r p a h pos = go (claims E r p a) refl
    where
      go : (t : Bool) → claims E r p a ≡ t → eqb (address_or_0 (counted_at E (32 * cylinders) r p)) a ≡ t
      go true is =
          ap (λ o. eqb (address_or_0 o) a) (lowest_only (claims E r p) (32 * cylinders) a h is (λ b k e. single r p b a k h e is)) ∙ eq-eqb a a refl
      go false is = other (counted_at E (32 * cylinders) r p) refl
        where
          other : (o : Option ℕ) → counted_at E (32 * cylinders) r p ≡ o → eqb (address_or_0 o) a ≡ false
          other None found = ne_eqb 0 a (λ e. omega arith)
          other (Some b) found = ne_eqb b a (λ e. true≢false (sym (lowest_finds (claims E r p) (32 * cylinders) b found).0 ∙ ap (claims E r p) e ∙ is))

  -- a root block holds an address for a position exactly if the address claims it
  pub holds_is : (r p a : ℕ) → r < 32 * cylinders → root_place r ≡ true → p < 64 → a < 32 * cylinders → 0 < a → block_holds (R r) p a ≡ claims E r p a
  holds_is r p a rh place ph h pos = ap (λ o. block_holds o p a) (agree r rh place) ∙ by (remains_as (E r)) refl
    where
      by : (o : Option Held) → remains_as (E r) ≡ o → block_holds (Some (due_for r (counted_addresses E (32 * cylinders) r) o)) p a ≡ claims E r p a
      by None gone = sym (gone_claims E r p gone (E a))
      by (Some object) is = ap (λ x. eqb x a) (address_at E (32 * cylinders) r p ph) ∙ due_address r p a h pos

  -- only a root place has an object
  not_root : (r : ℕ) → r < 32 * cylinders → root_place r ≡ false → remains_as (E r) ≡ None
  not_root r h place = go (E r) (fit r h).0
    where
      go : (e : Entry) → fits_entry cylinders r e ≡ true → remains_as e ≡ None
      go Map f = refl
      go Free f = refl
      go (Root state kind commit tag) f = absurd (true≢false (sym (and_parts (root_place r) (is_tag tag) f).0 ∙ place))
      go (Data state position owner) f = refl

  -- only a data block claims anything
  not_data : (r p a : ℕ) → a < 32 * cylinders → sector_of a < 5 → claims E r p a ≡ false
  not_data r p a h low = go (E a) (fit a h).0
    where
      go : (e : Entry) → fits_entry cylinders a e ≡ true → (for_position r p e && counts E e) ≡ false
      go Map f = refl
      go Free f = refl
      go (Root state kind commit tag) f = refl
      go (Data state position owner) f =
          let parts = and_parts (leb 5 (sector_of a) && ltb position 64) (ltb (cylinder_of owner.root) cylinders) f in
          let high = leb-true 5 (sector_of a) (and_parts (leb 5 (sector_of a)) (ltb position 64) parts.0).0 in
          absurd (omega arith)

  held_remains : (o : Option RootBlock) (p : ℕ) → remains_as (held_entry o p) ≡ None
  held_remains None p = refl
  held_remains (Some Dead) p = refl
  held_remains (Some (Live root)) p = refl

  data_remains : (o : Option ℕ) → remains_as (data_entry R o) ≡ None
  data_remains None = refl
  data_remains (Some k) = held_remains (R (k / 64)) (k % 64)

  root_remains : (r : ℕ) → r < 32 * cylinders → root_place r ≡ true → remains_as (root_entry E (32 * cylinders) c r (R r)) ≡ remains_as (E r)
  root_remains r h place = ap (λ o. remains_as (root_entry E (32 * cylinders) c r o)) (agree r h place) ∙ by (remains_as (E r))
    where
      by : (o : Option Held) → remains_as (root_entry E (32 * cylinders) c r (Some (due_for r (counted_addresses E (32 * cylinders) r) o))) ≡ o
      by None = refl
      by (Some object) = refl

  entry_remains : (r : ℕ) → r < 32 * cylinders → remains_as (rebuilt_entry E R (32 * cylinders) c r) ≡ remains_as (E r)
  entry_remains r h = by (eqb (sector_of r) 0) refl (root_place r) refl
    where
      by : (x : Bool) → eqb (sector_of r) 0 ≡ x → (y : Bool) → root_place r ≡ y →
          remains_as (cond x Map (cond y (root_entry E (32 * cylinders) c r (R r)) (data_entry R (holder R (32 * cylinders) r)))) ≡ remains_as (E r)
      by true first true place =
          let zero = eqb-true (sector_of r) 0 first in
          let low = leb-true 1 (sector_of r) (and_parts (leb 1 (sector_of r)) (leb (sector_of r) 4) place).0 in
          absurd (omega arith)
      by true first false place = sym (not_root r h place)
      by false first true place = root_remains r h place
      by false first false place = data_remains (holder R (32 * cylinders) r) ∙ sym (not_root r h place)

  -- every object remains as it did
  remains' : (r : ℕ) → r < 32 * cylinders → remains_as (rebuilt E R (32 * cylinders) c r) ≡ remains_as (E r)
  remains' r h = by (eqb (cylinder_of r) c)
    where
      by : (t : Bool) → remains_as (cond t (rebuilt_entry E R (32 * cylinders) c r) (E r)) ≡ remains_as (E r)
      by true = entry_remains r h
      by false = refl

  -- the bit of an object that remains, at a root place r
  module _ (r : ℕ) (rh : r < 32 * cylinders) (object : Held) (is : remains_as (E r) ≡ Some object) where
    -- for its own entries, the root block shows what the bit says
    own_address : (b p : ℕ) (state : DataState) (owner : Identifier) → b < 32 * cylinders → E b ≡ Data state p owner → (eqb owner.root r && eqb object.tag owner.tag) ≡ true →
        eqb (get_or (counted_addresses E (32 * cylinders) r) p 0) b ≡ state_counts state (bit (E r))
    own_address b p state owner h at own =
        let fits = data_at b p state owner h at in
        let place : 5 ≤ sector_of b = fits.place in
        let parts = and_parts (eqb owner.root r) (eqb object.tag owner.tag) own in
        let tests : ((eqb owner.root r && eqb p p) && eqb object.tag owner.tag) ≡ true =
        and_from (eqb owner.root r && eqb p p) (eqb object.tag owner.tag) (and_from (eqb owner.root r) (eqb p p) parts.0 (eq-eqb p p refl)) parts.1 in
        ap (λ x. eqb x b) (address_at E (32 * cylinders) r p fits.few)
        ∙ due_address r p b h (omega arith)
        ∙ own_claims E r p object is (E b)
        ∙ ap (λ e. judged (state_for r object.tag p e) (bit (E r))) at
        ∙ ap (λ t. judged (cond t (Some state) None) (bit (E r))) tests

    -- an entry shows that the bit is set only if it is
    shows_only : (b : ℕ) → b < 32 * cylinders → bit (E r) ≡ false → shows r object.tag (counted_addresses E (32 * cylinders) r) b (E b) ≡ false
    shows_only b h off = by (E b) refl
      where
        guard : (m : Bool) (x : Bool) → (m ≡ true → x ≡ false) → (m && x) ≡ false
        guard true x f = f refl
        guard false x f = refl

        by : (e : Entry) → E b ≡ e → shows r object.tag (counted_addresses E (32 * cylinders) r) b e ≡ false
        by Map at = refl
        by Free at = refl
        by (Root state kind commit of) at = refl
        by (Data data_state.Allocated position owner) at = refl
        by (Data data_state.IntendingToAllocate position owner) at =
            guard (eqb owner.root r && eqb object.tag owner.tag) (eqb (get_or (counted_addresses E (32 * cylinders) r) position 0) b)
            (λ own. own_address b position data_state.IntendingToAllocate owner h at own ∙ off)
        by (Data data_state.IntendingToDeallocate position owner) at =
            guard (eqb owner.root r && eqb object.tag owner.tag) (not (eqb (get_or (counted_addresses E (32 * cylinders) r) position 0) b))
            (λ own. ap not (own_address b position data_state.IntendingToDeallocate owner h at own ∙ ap not off))

    and_false : (x : Bool) → (x && false) ≡ false
    and_false true = refl
    and_false false = refl

    bit_off : bit (E r) ≡ false → rebuilt_bit E (32 * cylinders) c r object.tag (counted_addresses E (32 * cylinders) r) ≡ false
    bit_off off =
        any_false (λ b. not (eqb (cylinder_of b) c) && shows r object.tag (counted_addresses E (32 * cylinders) r) b (E b)) (32 * cylinders)
        (λ b h. ap (λ t. not (eqb (cylinder_of b) c) && t) (shows_only b h off) ∙ and_false (not (eqb (cylinder_of b) c)))

    bit_on : (b : ℕ) → b < 32 * cylinders → eqb (cylinder_of b) c ≡ false → shows r object.tag (counted_addresses E (32 * cylinders) r) b (E b) ≡ true →
        rebuilt_bit E (32 * cylinders) c r object.tag (counted_addresses E (32 * cylinders) r) ≡ true
    bit_on b h away shown =
        any_true (λ d. not (eqb (cylinder_of d) c) && shows r object.tag (counted_addresses E (32 * cylinders) r) d (E d)) (32 * cylinders) b h
        (ap₂ (λ x y. not x && y) away shown)

    -- the rebuilt bit is right wherever an intention stands outside the lost map
    bit_right : (b p : ℕ) (owner : Identifier) (state : DataState) → b < 32 * cylinders → eqb (cylinder_of b) c ≡ false → E b ≡ Data state p owner →
        (eqb owner.root r && eqb object.tag owner.tag) ≡ true → (state ≡ data_state.Allocated → ⊥) →
        rebuilt_bit E (32 * cylinders) c r object.tag (counted_addresses E (32 * cylinders) r) ≡ bit (E r)
    bit_right b p owner state h away at own intention = by (bit (E r)) refl
      where
        shown : (s : DataState) → E b ≡ Data s p owner → (s ≡ data_state.Allocated → ⊥) → bit (E r) ≡ true →
            shows r object.tag (counted_addresses E (32 * cylinders) r) b (Data s p owner) ≡ true
        shown data_state.Allocated at' rest on = absurd (rest refl)
        shown data_state.IntendingToAllocate at' rest on =
            ap₂ ◌&&◌ own (own_address b p data_state.IntendingToAllocate owner h at' own ∙ on)
        shown data_state.IntendingToDeallocate at' rest on =
            ap₂ ◌&&◌ own (ap not (own_address b p data_state.IntendingToDeallocate owner h at' own ∙ ap not on))

        by : (t : Bool) → bit (E r) ≡ t → rebuilt_bit E (32 * cylinders) c r object.tag (counted_addresses E (32 * cylinders) r) ≡ t
        by true on = bit_on b h away (ap (shows r object.tag (counted_addresses E (32 * cylinders) r) b) at ∙ shown state at intention on)
        by false off = bit_off off

    -- and it is the bit that the rebuilt entry has
    bit_rebuilt : root_place r ≡ true → eqb (cylinder_of r) c ≡ true →
        bit (rebuilt E R (32 * cylinders) c r) ≡ rebuilt_bit E (32 * cylinders) c r object.tag (counted_addresses E (32 * cylinders) r)
    bit_rebuilt place here =
        let low = leb-true 1 (sector_of r) (and_parts (leb 1 (sector_of r)) (leb (sector_of r) 4) place).0 in
        let first : eqb (sector_of r) 0 ≡ false = ne_eqb (sector_of r) 0 (λ e. omega arith) in
        ap (λ t. bit (cond t (rebuilt_entry E R (32 * cylinders) c r) (E r))) here
        ∙ ap₂ (λ x y. bit (cond x Map (cond y (root_entry E (32 * cylinders) c r (R r)) (data_entry R (holder R (32 * cylinders) r))))) first place
        ∙ ap (λ o. bit (root_entry E (32 * cylinders) c r o)) (agree r rh place ∙ ap (λ o. Some (due_for r (counted_addresses E (32 * cylinders) r) o)) is)

  -- an entry outside the lost map counts as it did
  module _ (a : ℕ) (h : a < 32 * cylinders) (away : eqb (cylinder_of a) c ≡ false) where
    bit_same : (p : ℕ) (state : DataState) (owner : Identifier) (object : Held) → E a ≡ Data state p owner → remains_as (E owner.root) ≡ Some object → eqb object.tag owner.tag ≡ true →
        (state ≡ data_state.Allocated → ⊥) → bit (rebuilt E R (32 * cylinders) c owner.root) ≡ bit (E owner.root)
    bit_same p state owner object at is own intention = by (eqb (cylinder_of owner.root) c) refl
      where
        fits : DataFits cylinders a p owner
        fits = data_at a p state owner h at

        by : (t : Bool) → eqb (cylinder_of owner.root) c ≡ t → bit (cond t (rebuilt_entry E R (32 * cylinders) c owner.root) (E owner.root)) ≡ bit (E owner.root)
        by false elsewhere = refl
        by true here =
            ap (λ t. bit (cond t (rebuilt_entry E R (32 * cylinders) c owner.root) (E owner.root))) (sym here)
            ∙ bit_rebuilt owner.root fits.within object is fits.root here
            ∙ bit_right owner.root fits.within object is a p owner state h away at
            (and_from (eqb owner.root owner.root) (eqb object.tag owner.tag) (eq-eqb owner.root owner.root refl) own) intention

    counts_outside : counts (rebuilt E R (32 * cylinders) c) (E a) ≡ counts E (E a)
    counts_outside = by (E a) refl
      where
        named : (p : ℕ) (state : DataState) (owner : Identifier) → E a ≡ Data state p owner → (o : Option Held) → remains_as (E owner.root) ≡ o →
            (has_tag owner.tag o && state_counts state (bit (rebuilt E R (32 * cylinders) c owner.root))) ≡ (has_tag owner.tag o && state_counts state (bit (E owner.root)))
        named p state owner at None is = refl
        named p state owner at (Some object) is = tagged (eqb object.tag owner.tag) refl
          where
            stated : (s : DataState) → E a ≡ Data s p owner → eqb object.tag owner.tag ≡ true →
                state_counts s (bit (rebuilt E R (32 * cylinders) c owner.root)) ≡ state_counts s (bit (E owner.root))
            stated data_state.Allocated at' own = refl
            stated data_state.IntendingToAllocate at' own =
                bit_same p data_state.IntendingToAllocate owner object at' is own (λ e. true≢false cc)
            stated data_state.IntendingToDeallocate at' own =
                ap not (bit_same p data_state.IntendingToDeallocate owner object at' is own (λ e. true≢false cc))

            tagged : (t : Bool) → eqb object.tag owner.tag ≡ t →
                (t && state_counts state (bit (rebuilt E R (32 * cylinders) c owner.root))) ≡ (t && state_counts state (bit (E owner.root)))
            tagged true own = stated state at own
            tagged false own = refl

        by : (e : Entry) → E a ≡ e → counts (rebuilt E R (32 * cylinders) c) e ≡ counts E e
        by Map at = refl
        by Free at = refl
        by (Root state kind commit tag) at = refl
        by (Data state position owner) at =
            ap (λ o. has_tag owner.tag o && state_counts state (bit (rebuilt E R (32 * cylinders) c owner.root))) (remains' owner.root (data_at a position state owner h at).within)
            ∙ named position state owner at (remains_as (E owner.root)) refl

    claims_outside : (r p : ℕ) → claims (rebuilt E R (32 * cylinders) c) r p a ≡ claims E r p a
    claims_outside r p =
        ap (λ t. for_position r p (cond t (rebuilt_entry E R (32 * cylinders) c a) (E a)) && counts (rebuilt E R (32 * cylinders) c) (cond t (rebuilt_entry E R (32 * cylinders) c a) (E a))) away
        ∙ ap (λ t. for_position r p (E a) && t) counts_outside

  -- a data block of the lost map
  module _ (a : ℕ) (h : a < 32 * cylinders) (high : 5 ≤ sector_of a) where
    -- the slot of a root place and a position
    slot_test : (k : ℕ) → k < 64 * (32 * cylinders) → holds R (k / 64) (k % 64) a ≡ claims E (k / 64) (k % 64) a
    slot_test k below = by (root_place (k / 64)) refl
      where
        by : (t : Bool) → root_place (k / 64) ≡ t → (t && block_holds (R (k / 64)) (k % 64) a) ≡ claims E (k / 64) (k % 64) a
        by true place = holds_is (k / 64) (k % 64) a (omega arith) place (mod_below k 64 (omega arith)) h (omega arith)
        by false place = sym (none (claims E (k / 64) (k % 64) a) refl)
          where
            none : (t : Bool) → claims E (k / 64) (k % 64) a ≡ t → t ≡ false
            none false e = refl
            none true e =
                let found = claim_for E (k / 64) (k % 64) (E a) e in
                let fits = data_at a (k % 64) found.0 found.1.0 h found.1.1 in
                absurd (true≢false (sym fits.root ∙ ap root_place found.1.2 ∙ place))

    holder_is : holder R (32 * cylinders) a ≡ lowest (λ k. claims E (k / 64) (k % 64) a) (64 * (32 * cylinders))
    holder_is = lowest_below (λ k. holds R (k / 64) (k % 64) a) (λ k. claims E (k / 64) (k % 64) a) (64 * (32 * cylinders)) slot_test

    free_inside : counts E (E a) ≡ false → data_entry R (holder R (32 * cylinders) a) ≡ Free
    free_inside off =
        ap (data_entry R) (holder_is ∙ lowest_none (λ k. claims E (k / 64) (k % 64) a) (64 * (32 * cylinders))
        (λ k below. ap (λ t. for_position (k / 64) (k % 64) (E a) && t) off ∙ and_none (for_position (k / 64) (k % 64) (E a))))
      where
        and_none : (x : Bool) → (x && false) ≡ false
        and_none true = refl
        and_none false = refl

    held_inside : (p : ℕ) (state : DataState) (owner : Identifier) → E a ≡ Data state p owner → counts E (E a) ≡ true →
        data_entry R (holder R (32 * cylinders) a) ≡ Data data_state.Allocated p owner
    held_inside p state owner at on =
        ap (data_entry R) (holder_is ∙ lowest_only (λ k. claims E (k / 64) (k % 64) a) (64 * (32 * cylinders)) (64 * owner.root + p) bound slot_claims unique)
        ∙ ap₂ (λ q x. held_entry (R q) x) place_of position_of
        ∙ ap (λ o. held_entry o p) (agree owner.root fits.within fits.root)
        ∙ by (remains_as (E owner.root)) (and_parts (has_tag owner.tag (remains_as (E owner.root))) (state_counts state (bit (E owner.root))) (ap (counts E) (sym at) ∙ on)).0
      where
        fits : DataFits cylinders a p owner
        fits = data_at a p state owner h at

        few : p < 64
        few = fits.few

        root_within : owner.root < 32 * cylinders
        root_within = fits.within

        bound : 64 * owner.root + p < 64 * (32 * cylinders)
        bound = omega (arith, few, root_within)

        place_of : (64 * owner.root + p) / 64 ≡ owner.root
        place_of = omega (arith, few)

        position_of : (64 * owner.root + p) % 64 ≡ p
        position_of = omega (arith, few)

        own_claim : claims E owner.root p a ≡ true
        own_claim =
            ap₂ ◌&&◌ (ap (for_position owner.root p) at ∙ and_from (eqb owner.root owner.root) (eqb p p) (eq-eqb owner.root owner.root refl) (eq-eqb p p refl)) on

        slot_claims : claims E ((64 * owner.root + p) / 64) ((64 * owner.root + p) % 64) a ≡ true
        slot_claims = ap₂ (λ q x. claims E q x a) place_of position_of ∙ own_claim

        unique : (k : ℕ) → k < 64 * (32 * cylinders) → claims E (k / 64) (k % 64) a ≡ true → k ≡ 64 * owner.root + p
        unique k below e =
            let found = claim_for E (k / 64) (k % 64) (E a) e in
            let other = found.1.0 in
            let same : Data found.0 (k % 64) other ≡ Data state p owner = sym found.1.1 ∙ at in
            let position : k % 64 ≡ p = cc in
            let whom : other ≡ owner = cc in
            let root : k / 64 ≡ owner.root = sym found.1.2 ∙ ap (λ (id : Identifier). id.root) whom in
            omega (arith, position, root)

        by : (o : Option Held) → has_tag owner.tag o ≡ true → held_entry (Some (due_for owner.root (counted_addresses E (32 * cylinders) owner.root) o)) p ≡ Data data_state.Allocated p owner
        by None named = absurd (true≢false (sym named))
        by (Some object) named = ap (λ t. Data data_state.Allocated p (record { tag = t; root = owner.root })) (eqb-true object.tag owner.tag named)

    claims_inside : (r p : ℕ) → (for_position r p (data_entry R (holder R (32 * cylinders) a)) && counts (rebuilt E R (32 * cylinders) c) (data_entry R (holder R (32 * cylinders) a))) ≡ claims E r p a
    claims_inside r p = by (counts E (E a)) refl
      where
        and_none : (x : Bool) → (x && false) ≡ false
        and_none true = refl
        and_none false = refl

        judge : Entry → Bool
        judge e = for_position r p e && counts (rebuilt E R (32 * cylinders) c) e

        entry : (e : Entry) → E a ≡ e → counts E (E a) ≡ true → judge (data_entry R (holder R (32 * cylinders) a)) ≡ (for_position r p e && true)
        entry Map at on = absurd (true≢false (sym on ∙ ap (counts E) at))
        entry Free at on = absurd (true≢false (sym on ∙ ap (counts E) at))
        entry (Root state kind commit tag) at on = absurd (true≢false (sym on ∙ ap (counts E) at))
        entry (Data state position owner) at on =
            let fits = data_at a position state owner h at in
            let named = (and_parts (has_tag owner.tag (remains_as (E owner.root))) (state_counts state (bit (E owner.root))) (ap (counts E) (sym at) ∙ on)).0 in
            ap judge (held_inside position state owner at on)
            ∙ ap (λ t. (eqb owner.root r && eqb position p) && (t && true)) (ap (has_tag owner.tag) (remains' owner.root fits.within) ∙ named)

        by : (t : Bool) → counts E (E a) ≡ t → judge (data_entry R (holder R (32 * cylinders) a)) ≡ claims E r p a
        by true on = entry (E a) refl on ∙ sym (ap (λ t. for_position r p (E a) && t) on)
        by false off = ap judge (free_inside off) ∙ sym (ap (λ t. for_position r p (E a) && t) off ∙ and_none (for_position r p (E a)))

pub lost_map_law : LostMapLaw
lost_map_law E R cylinders c inside fit single agree =
    same_from_claims (32 * cylinders) E (rebuilt E R (32 * cylinders) c) (remains' E R cylinders c inside fit single agree) (λ r p a h. everywhere r p a h (eqb (cylinder_of a) c) refl)
  where
    F : Entries
    F = rebuilt E R (32 * cylinders) c

    no_claims : (r p a : ℕ) (o : Option RootBlock) → (for_position r p (root_entry E (32 * cylinders) c a o) && counts F (root_entry E (32 * cylinders) c a o)) ≡ false
    no_claims r p a None = refl
    no_claims r p a (Some Dead) = refl
    no_claims r p a (Some (Live root)) = refl

    within : (r p a : ℕ) → a < 32 * cylinders → (x : Bool) → eqb (sector_of a) 0 ≡ x → (y : Bool) → root_place a ≡ y →
        (for_position r p (cond x Map (cond y (root_entry E (32 * cylinders) c a (R a)) (data_entry R (holder R (32 * cylinders) a))))
        && counts F (cond x Map (cond y (root_entry E (32 * cylinders) c a (R a)) (data_entry R (holder R (32 * cylinders) a))))) ≡ claims E r p a
    within r p a h true first y place =
        let zero = eqb-true (sector_of a) 0 first in sym (not_data E R cylinders c inside fit single agree r p a h (omega arith))
    within r p a h false first true place =
        let high = leb-true (sector_of a) 4 (and_parts (leb 1 (sector_of a)) (leb (sector_of a) 4) place).1 in
        no_claims r p a (R a) ∙ sym (not_data E R cylinders c inside fit single agree r p a h (omega arith))
    within r p a h false first false place =
        let apart = eqb-false (sector_of a) 0 first in
        let high : 5 ≤ sector_of a =
        ⊎_elim
        (λ (low : leb 1 (sector_of a) ≡ false). absurd (apart (let l = leb-false 1 (sector_of a) low in omega arith)))
        (λ (far : leb (sector_of a) 4 ≡ false). let l = leb-false (sector_of a) 4 far in omega arith)
        (and_cases (leb 1 (sector_of a)) (leb (sector_of a) 4) place) in
        claims_inside E R cylinders c inside fit single agree a h high r p

    everywhere : (r p a : ℕ) → a < 32 * cylinders → (t : Bool) → eqb (cylinder_of a) c ≡ t → claims F r p a ≡ claims E r p a
    everywhere r p a h false away = claims_outside E R cylinders c inside fit single agree a h away r p
    everywhere r p a h true here =
        ap (λ t. for_position r p (cond t (rebuilt_entry E R (32 * cylinders) c a) (E a)) && counts F (cond t (rebuilt_entry E R (32 * cylinders) c a) (E a))) here
        ∙ within r p a h (eqb (sector_of a) 0) refl (root_place a) refl
