-- How what a map store asks for comes about.
use Rattle.std.proofs.Common.{◌≡◌, ℕ, ◌*◌, ◌<◌, Bool, true, false, cond, ◌&&◌, eqb, ◌≢◌, List, length, get_or, set, Some, None, sym, refl, ap, ◌∙◌, subst, ap₂, ⊎_elim, arith}
use mathlib.Core.Path.{fun_ext}
use Rattle.std.proofs.lemmas.Nat.{mod_below}
use Rattle.std.proofs.lemmas.List.{length-set, get_or-set_same, get_or-set_other}
use Rattle.std.proofs.lemmas.Bool.{and_parts, eq-eqb, ne_eqb, eqb-true, cases_eq, true≢false}
use Rattle.device.specs.Blocks.{Block, block_at}
use Rattle.device.specs.Gathers.{gathered_each}
use Rattle.map.specs.Addresses.{cylinder_of, sector_of, root_place}
use Rattle.map.specs.Entries.{fits_entry, Named}
use Rattle.map.specs.Maps.{decoded_sector}
use Rattle.map.specs.declared.entry.DataState.{DataState}
use Rattle.map.specs.declared.entry.DataState.TheVariants as data_state
use Rattle.map.specs.declared.entry.Entry.{Entry}
use Rattle.map.specs.declared.entry.Entry.TheVariants.{Map, Free, Root, Data}
use Rattle.map.specs.declared.identifier.Identifier.{Identifier}
use Rattle.volume.specs.Committing.{state_for, Becomes}
use Rattle.volume.specs.Counting.{due}
use Rattle.volume.specs.Preparing.{WrittenMapLaw, NoPositionLaw, LeftAlone, RootStoreLaw}
use Rattle.volume.specs.Volume.{cylinders_of, map_at, entry_in, entry_at, root_in, root_at}
use Rattle.volume.proofs.Fitting.{data_fits}
use Rattle.volume.proofs.MapStores.{same_roots}
use Rattle.volume.proofs.Reading.{usable_fits}
use Rattle.volume.proofs.Sameness.{owed_same}
use Rattle.volume.proofs.Stores.{same_cylinders, elsewhere, same_entries, same_root}

module _ (blocks : List Block) (r : ℕ) (entries : List Entry) (f : Entry → Entry) (is : map_at blocks (cylinder_of r) ≡ Some entries) (long : length entries ≡ 32) where
  read : (a : ℕ) → cylinder_of a ≡ cylinder_of r → entry_at blocks a ≡ get_or entries (sector_of a) Map
  read a here = ap (λ o. entry_in o (sector_of a)) (ap (map_at blocks) here ∙ is)

  written_says : (a : ℕ) → cylinder_of a ≡ cylinder_of r →
      get_or (set entries (sector_of r) (f (get_or entries (sector_of r) Map))) (sector_of a) Map ≡ cond (eqb a r) (f (entry_at blocks a)) (entry_at blocks a)
  written_says a here =
      ⊎_elim
      (λ (e : a ≡ r).
      ap (λ k. get_or (set entries (sector_of r) (f (get_or entries (sector_of r) Map))) (sector_of k) Map) e
      ∙ get_or-set_same entries (sector_of r) (f (get_or entries (sector_of r) Map)) Map (let low = mod_below r 32 (omega arith) in omega arith)
      ∙ sym (ap f (ap (entry_at blocks) e ∙ read r refl))
      ∙ sym (ap (λ t. cond t (f (entry_at blocks a)) (entry_at blocks a)) (eq-eqb a r e)))
      (λ (ne : a ≢ r).
      get_or-set_other entries (sector_of r) (sector_of a) (f (get_or entries (sector_of r) Map)) Map (λ e. ne (omega arith))
      ∙ sym (read a here)
      ∙ sym (ap (λ t. cond t (f (entry_at blocks a)) (entry_at blocks a)) (ne_eqb a r ne)))
      (cases_eq a r)

pub written_map_law : WrittenMapLaw
written_map_law blocks r bytes entries f is decodes =
    let changed : List Entry = set entries (sector_of r) (f (get_or entries (sector_of r) Map)) in
    let long : length changed ≡ 32 = (gathered_each (decoded_sector (cylinders_of blocks) (cylinder_of r) bytes) 32 0 changed decodes).long in
    record {
      entries = changed;
      decodes = decodes;
      says = written_says blocks r entries f is (sym (length-set entries (sector_of r) (f (get_or entries (sector_of r) Map))) ∙ long);
    }

-- an entry of the object for a position is a data entry for it
entry_of : (r tag p : ℕ) (e : Entry) (state : DataState) → state_for r tag p e ≡ Some state → (s : DataState) × ((owner : Identifier) × (e ≡ Data s p owner))
entry_of r tag p Map state is = absurd (true≢false cc)
entry_of r tag p Free state is = absurd (true≢false cc)
entry_of r tag p (Root s kind commit of) state is = absurd (true≢false cc)
entry_of r tag p (Data s position owner) state is = by (eqb owner.root r && eqb position p && eqb tag owner.tag) refl is
  where
    by : (t : Bool) → (eqb owner.root r && eqb position p && eqb tag owner.tag) ≡ t → cond t (Some s) None ≡ Some state → (u : DataState) × ((o : Identifier) × (Data s position owner ≡ Data u p o))
    by true test found =
        let place = (and_parts (eqb owner.root r) (eqb position p) (and_parts (eqb owner.root r && eqb position p) (eqb tag owner.tag) test).0).1 in
        (s, (owner, ap (λ k. Data s k owner) (eqb-true position p place)))
    by false test found = absurd (true≢false cc)

pub no_position_law : NoPositionLaw
no_position_law blocks usable r tag p past = Becomes.emptied (never data_state.Allocated) (never data_state.IntendingToAllocate)
  where
    never : (state : DataState) (a : ℕ) → a < 32 * cylinders_of blocks → state_for r tag p (entry_at blocks a) ≡ Some state → ⊥
    never state a h is =
        let found = entry_of r tag p (entry_at blocks a) state is in
        let fits = usable_fits blocks usable a h in
        let few = (data_fits (cylinders_of blocks) a p found.0 found.1.0 (ap (fits_entry (cylinders_of blocks) a) (sym found.1.1) ∙ fits.0) (subst Named found.1.1 fits.1)).few in
        omega arith

pub left_alone : LeftAlone
left_alone = record { entries = same_entries; roots_by_data = λ blocks a x high. fun_ext (same_root blocks a x high); roots_by_map = same_roots }

pub root_store_law : RootStoreLaw
root_store_law blocks r bytes E within placed agree others decodes q h place =
    let size = same_cylinders blocks r (Block.readable bytes) in
    ⊎_elim
    (λ (e : q ≡ r).
    ap (root_at (set blocks r (Block.readable bytes))) e ∙ ap (λ t. cond t (root_in (cylinders_of (set blocks r (Block.readable bytes))) r (block_at (set blocks r (Block.readable bytes)) r)) None) placed
    ∙ ap₂ (λ n b. root_in n r b) size (get_or-set_same blocks r (Block.readable bytes) Block.unreadable (omega arith))
    ∙ decodes ∙ ap (λ k. Some (due E (32 * cylinders_of blocks) k)) (sym e))
    (λ ne.
    ap₂ (λ n b. cond (root_place q) (root_in n q b) None) size (elsewhere blocks r (Block.readable bytes) q ne) ∙ agree q h place
    ∙ ap Some (sym (owed_same (32 * cylinders_of blocks) (entry_at blocks) E q (others.remains q ne) (λ p. others.counted (32 * cylinders_of blocks) q p ne))))
    (cases_eq q r)
