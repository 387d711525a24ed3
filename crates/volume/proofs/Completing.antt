-- What makes a volume complete, and what it then shows, by the entries that its maps say.
use Rattle.std.proofs.Common.{◌≡◌, ℕ, ◌*◌, ◌<◌, true, false, leb, List, set, Some, sym, refl, ap, ◌∙◌, ap₂, subst₂, arith}
use Rattle.std.proofs.lemmas.Bool.{and_parts, leb-true}
use Rattle.device.specs.Blocks.{Block, block_at}
use Rattle.map.specs.Addresses.{sector_of, root_place}
use Rattle.map.specs.declared.kind.Kind.TheVariants as kind
use Rattle.volume.specs.Counting.{Entries, Held, remains_as, claims, counted_at}
use Rattle.volume.specs.Meeting.{Usable}
use Rattle.volume.specs.Rebuilding.{SingleClaims}
use Rattle.volume.specs.Recoverable.{Complete}
use Rattle.volume.specs.Volume.{cylinders_of, entry_at, is_unreadable, entries_with, content, object_of, counted}
use Rattle.volume.proofs.Reading.{usable_none_lost}
use Rattle.volume.proofs.Searching.{lowest_finds}
use Rattle.volume.proofs.Stores.{same_cylinders, same_map, same_entries, elsewhere, claim_place}

-- what completeness asks of entries, and of the blocks that they count
pub record CountsWell (blocks : List Block) (E : Entries) (n : ℕ) : Type 0 where
  pub single : SingleClaims E n
  pub indexes : (r p a : ℕ) (object : Held) → r < n → remains_as (E r) ≡ Some object → object.kind ≡ kind.Index → counted_at E n r p ≡ Some a →
      is_unreadable (block_at blocks a) ≡ false
  pub root_index : (object : Held) × (remains_as (E 1) ≡ Some object) × (object.kind ≡ kind.Index)

module _ (blocks : List Block) (E : Entries) (n : ℕ) (usable : Usable blocks) (entries : entry_at blocks ≡ E) (size : 32 * cylinders_of blocks ≡ n) where
  pub complete_by : CountsWell blocks E n → Complete blocks
  complete_by well =
      let P : Entries → ℕ → Type 0 = λ F m. CountsWell blocks F m in
      let own : CountsWell blocks (entry_at blocks) (32 * cylinders_of blocks) = subst₂ P (sym entries) (sym size) well in
      record { usable = usable; single = own.single; indexes = own.indexes; root_index = own.root_index }

  pub shows_by : (r : ℕ) → counted blocks r ≡ object_of (λ p. content blocks (counted_at E n r p)) (remains_as (E r))
  shows_by r = ap₂ (λ F m. object_of (λ p. content blocks (counted_at F m r p)) (remains_as (F r))) (ap (entries_with blocks) (usable_none_lost blocks usable) ∙ entries) size

-- a complete volume, by its own maps
module _ (blocks : List Block) (complete : Complete blocks) where
  pub well_counted : CountsWell blocks (entry_at blocks) (32 * cylinders_of blocks)
  well_counted = record { single = complete.single; indexes = complete.indexes; root_index = complete.root_index }

  pub shows_own : (r : ℕ) → counted blocks r ≡ object_of (λ p. content blocks (counted_at (entry_at blocks) (32 * cylinders_of blocks) r p)) (remains_as (entry_at blocks r))
  shows_own = shows_by blocks (entry_at blocks) (32 * cylinders_of blocks) complete.usable refl refl

-- a store past sector 0, at a block that counts for no position of an index, leaves a complete volume complete
pub still_complete : (blocks : List Block) (a : ℕ) (x : Block) → 0 < sector_of a → Complete blocks →
    ((r p : ℕ) (object : Held) → remains_as (entry_at blocks r) ≡ Some object → object.kind ≡ kind.Index → counted_at (entry_at blocks) (32 * cylinders_of blocks) r p ≡ Some a → ⊥) →
    Complete (set blocks a x)
still_complete blocks a x past complete apart =
    let size : cylinders_of (set blocks a x) ≡ cylinders_of blocks = same_cylinders blocks a x in
    complete_by (set blocks a x) (entry_at blocks) (32 * cylinders_of blocks)
    (λ c h. let map = complete.usable c (rw (← size) h) in (map.0, same_map blocks a x past c ∙ map.1)) (same_entries blocks a x past) (ap (λ n. 32 * n) size)
    (record {
      single = complete.single;
      indexes = λ r p b object h is kinds found.
          ap is_unreadable (elsewhere blocks a x b (λ e. apart r p object is kinds (found ∙ ap Some e))) ∙ complete.indexes r p b object h is kinds found;
      root_index = complete.root_index;
    })

-- no root place counts for a position
pub root_complete : (blocks : List Block) (a : ℕ) (x : Block) → root_place a ≡ true → Complete blocks → Complete (set blocks a x)
root_complete blocks a x place complete =
    let sides = and_parts (leb 1 (sector_of a)) (leb (sector_of a) 4) place in
    let low = leb-true 1 (sector_of a) sides.0 in
    let high = leb-true (sector_of a) 4 sides.1 in
    still_complete blocks a x (omega arith) complete
    (λ r p object is kinds found. let past = claim_place blocks r p a (lowest_finds (claims (entry_at blocks) r p) (32 * cylinders_of blocks) a found).0 in omega arith)
