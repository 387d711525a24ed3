-- Why a volume at rest shows what counts.
use Rattle.std.proofs.Common.{◌≡◌, ℕ, ◌*◌, ◌<◌, ◌≤◌, Bool, true, false, cond, ◌&&◌, eqb, List, get_or, Some, None, Option, sym, refl, ap, ◌∙◌, subst, ap₂, ⊎_elim, arith}
use mathlib.Core.Path.{fun_ext}
use Rattle.std.proofs.lemmas.List.FromFn.{length-map-range_with_len}
use Rattle.std.proofs.lemmas.List.{get_or_past}
use Rattle.std.proofs.lemmas.Bool.{and_parts, and_from, eq-eqb, ne_eqb, cases_lt, true≢false}
use Rattle.device.specs.Blocks.{Block, block_at}
use Rattle.map.specs.Addresses.{cylinder_of, sector_of, root_place}
use Rattle.map.specs.Entries.{fits_entry, Named}
use Rattle.map.specs.Identifiers.{is_tag}
use Rattle.map.specs.declared.entry.DataState.{DataState}
use Rattle.map.specs.declared.entry.DataState.TheVariants as data_state
use Rattle.map.specs.declared.entry.Entry.{Entry}
use Rattle.map.specs.declared.entry.Entry.TheVariants.{Map, Free, Root, Data}
use Rattle.map.specs.declared.entry.RootState.TheVariants as root_state
use Rattle.map.specs.declared.identifier.Identifier.{Identifier}
use Rattle.volume.specs.Counting.{remains_as, counts, for_position, claims, counted_at, address_or_0, counted_addresses, due_for}
use Rattle.volume.specs.Meeting.{Quiet, Rest, MeetingLaw}
use Rattle.volume.specs.Rebuilding.{FitVolume, block_holds}
use Rattle.volume.specs.Volume.{cylinders_of, entry_at, root_in, root_at, entries_with, restart_entries, content, object_of, counted, some_address, live_object, existing, shown}
use Rattle.volume.proofs.Fitting.{address_at, data_fits, claim_for}
use Rattle.volume.proofs.LostMap.{holds_is}
use Rattle.volume.proofs.Reading.{usable_none_lost, usable_fits}
use Rattle.volume.proofs.Searching.{lowest_finds}

module _ (blocks : List Block) (rest : Rest blocks) where
  fit : FitVolume (entry_at blocks) (cylinders_of blocks)
  fit = usable_fits blocks rest.usable

  counts_by_maps : restart_entries blocks ≡ entry_at blocks
  counts_by_maps = ap (entries_with blocks) (usable_none_lost blocks rest.usable)

  -- a counted block is a data block, for a position below 64
  counted_place : (r p b : ℕ) → counted_at (entry_at blocks) (32 * cylinders_of blocks) r p ≡ Some b → (0 < b) × (p < 64)
  counted_place r p b found =
      let finds = lowest_finds (claims (entry_at blocks) r p) (32 * cylinders_of blocks) b found in
      let claim = claim_for (entry_at blocks) r p (entry_at blocks b) finds.0 in
      let f = fit b finds.1 in
      let fits = data_fits (cylinders_of blocks) b p claim.0 claim.1.0 (ap (fits_entry (cylinders_of blocks) b) (sym claim.1.1) ∙ f.0) (subst Named claim.1.1 f.1) in
      let place : 5 ≤ sector_of b = fits.place in
      (omega arith, fits.few)

  -- the address that is due for a position leads to the block that counts there
  address_leads : (r p : ℕ) → some_address (get_or (counted_addresses (entry_at blocks) (32 * cylinders_of blocks) r) p 0) ≡ counted_at (entry_at blocks) (32 * cylinders_of blocks) r p
  unfolding counted_addresses
  address_leads r p =
      ⊎_elim
      (λ (h : p < 64). ap some_address (address_at (entry_at blocks) (32 * cylinders_of blocks) r p h) ∙ back (counted_at (entry_at blocks) (32 * cylinders_of blocks) r p) refl)
      (λ (h : 64 ≤ p).
      ap some_address (get_or_past (counted_addresses (entry_at blocks) (32 * cylinders_of blocks) r) p 0 (rw (length-map-range_with_len (λ q. address_or_0 (counted_at (entry_at blocks) (32 * cylinders_of blocks) r q)) 0 64) h))
      ∙ far h (counted_at (entry_at blocks) (32 * cylinders_of blocks) r p) refl)
      (cases_lt p 64)
    where
      back : (o : Option ℕ) → counted_at (entry_at blocks) (32 * cylinders_of blocks) r p ≡ o → some_address (address_or_0 o) ≡ o
      back None found = refl
      back (Some b) found = ap (λ t. cond t None (Some b)) (ne_eqb b 0 (λ e. let place = counted_place r p b found in omega arith))

      far : 64 ≤ p → (o : Option ℕ) → counted_at (entry_at blocks) (32 * cylinders_of blocks) r p ≡ o → None ≡ o
      far h None found = refl
      far h (Some b) found = absurd (let place = counted_place r p b found in omega arith)

  shown_is : (r : ℕ) → r < 32 * cylinders_of blocks → shown blocks r ≡ object_of (λ p. content blocks (counted_at (entry_at blocks) (32 * cylinders_of blocks) r p)) (remains_as (entry_at blocks r))
  shown_is r h = by (entry_at blocks r) refl (rest.quiet r h)
    where
      by : (e : Entry) → entry_at blocks r ≡ e → Quiet (entry_at blocks) e → existing blocks r e ≡ object_of (λ p. content blocks (counted_at (entry_at blocks) (32 * cylinders_of blocks) r p)) (remains_as e)
      by Map at quiet = refl
      by Free at quiet = refl
      by (Root root_state.IntendingToDeallocate kind commit tag) at quiet = absurd quiet
      by (Data state position owner) at quiet = refl
      by (Root root_state.Allocated kind commit tag) at quiet =
          let place : root_place r ≡ true = (and_parts (root_place r) (is_tag tag) (ap (fits_entry (cylinders_of blocks) r) (sym at) ∙ (fit r h).0)).0 in
          let live = rest.agree r h place ∙ ap (λ o. Some (due_for r (counted_addresses (entry_at blocks) (32 * cylinders_of blocks) r) o)) (ap remains_as at) in
          let named : (eqb tag tag && eqb r r) ≡ true = and_from (eqb tag tag) (eqb r r) (eq-eqb tag tag refl) (eq-eqb r r refl) in
          ap (live_object blocks r kind tag) live
          ∙ ap (λ t. cond t (Some (record { kind = kind; tag = tag; positions = λ p. content blocks (some_address (get_or (counted_addresses (entry_at blocks) (32 * cylinders_of blocks) r) p 0)) })) None) named
          ∙ ap (λ positions. Some (record { kind = kind; tag = tag; positions = positions })) (fun_ext (λ p. ap (content blocks) (address_leads r p)))

  meets : (r : ℕ) → r < 32 * cylinders_of blocks → shown blocks r ≡ counted blocks r
  meets r h = shown_is r h ∙ sym (ap (λ E. object_of (λ p. content blocks (counted_at E (32 * cylinders_of blocks) r p)) (remains_as (E r))) counts_by_maps)

  module _ (a : ℕ) (h : a < 32 * cylinders_of blocks) (positive : 0 < a) where
    held_is : (r p : ℕ) → r < 32 * cylinders_of blocks → root_place r ≡ true → p < 64 → block_holds (root_at blocks r) p a ≡ claims (entry_at blocks) r p a
    held_is r p rh place few =
        holds_is (entry_at blocks) (root_at blocks) (cylinders_of blocks) (cylinder_of a) (omega arith) fit rest.single rest.agree r p a rh place few h positive

    held_by : (position : ℕ) (owner : Identifier) → entry_at blocks a ≡ Data data_state.Allocated position owner → block_holds (root_at blocks owner.root) position a ≡ true
    held_by p owner at =
        let f = fit a h in
        let fits = data_fits (cylinders_of blocks) a p data_state.Allocated owner (ap (fits_entry (cylinders_of blocks) a) (sym at) ∙ f.0) (subst Named at f.1) in
        let count : counts (entry_at blocks) (entry_at blocks a) ≡ true = ap (counts (entry_at blocks)) at ∙ subst (Quiet (entry_at blocks)) at (rest.quiet a h) in
        held_is owner.root p fits.within fits.root fits.few
        ∙ ap₂ ◌&&◌ (ap (for_position owner.root p) at ∙ and_from (eqb owner.root owner.root) (eqb p p) (eq-eqb owner.root owner.root refl) (eq-eqb p p refl)) count

    allocated_to : (r p : ℕ) → r < 32 * cylinders_of blocks → p < 64 → block_holds (root_at blocks r) p a ≡ true →
        (owner : Identifier) × (entry_at blocks a ≡ Data data_state.Allocated p owner) × (owner.root ≡ r)
    allocated_to r p rh few holds = by (root_place r) refl
      where
        stated : (state : DataState) (owner : Identifier) → entry_at blocks a ≡ Data state p owner → Quiet (entry_at blocks) (Data state p owner) → entry_at blocks a ≡ Data data_state.Allocated p owner
        stated data_state.Allocated owner at quiet = at
        stated data_state.IntendingToAllocate owner at quiet = absurd quiet
        stated data_state.IntendingToDeallocate owner at quiet = absurd quiet

        by : (t : Bool) → root_place r ≡ t → (owner : Identifier) × (entry_at blocks a ≡ Data data_state.Allocated p owner) × (owner.root ≡ r)
        by false place = absurd (true≢false (sym holds ∙ ap (λ t. block_holds (cond t (root_in (cylinders_of blocks) r (block_at blocks r)) None) p a) place))
        by true place =
            let claim = claim_for (entry_at blocks) r p (entry_at blocks a) (sym (held_is r p rh place few) ∙ holds) in
            (claim.1.0, stated claim.0 claim.1.0 claim.1.1 (subst (Quiet (entry_at blocks)) claim.1.1 (rest.quiet a h)), claim.1.2)

pub meeting_law : MeetingLaw
meeting_law blocks rest = (meets blocks rest, λ a h positive. record { held = held_by blocks rest a h positive; allocated = allocated_to blocks rest a h positive })
