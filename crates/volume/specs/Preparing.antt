-- What a map store that changes one object asks for, and how it comes about.
--   WrittenMapLaw  a map with one of its entries changed says the entries with that change
--   NoPositionLaw  no entry is for a position past the last, so such a position has no block
--   LeftAlone      what stores away from maps, and away from root blocks, leave as it is
--   RootStoreLaw   once the root block that will be due is stored, root blocks agree with the entries to come
use Rattle.std.specs.Prelude.{◌≡◌, ℕ, ◌*◌, ◌<◌, ◌≤◌, true, cond, List, Some, None, ◌==◌, slice_index_or, slice_set}
use Rattle.device.specs.Blocks.{Block}
use Rattle.map.specs.Addresses.{cylinder_of, sector_of, root_place}
use Rattle.map.specs.Maps.{decoded_map}
use Rattle.map.specs.declared.entry.Entry.{Entry}
use Rattle.map.specs.declared.entry.Entry.TheVariants.{Map}
use Rattle.object.specs.Roots.{decoded_root}
use Rattle.volume.specs.Changing.{MapFor, Agreeing}
use Rattle.volume.specs.Committing.{Becomes, OthersStay}
use Rattle.volume.specs.Counting.{Entries, due}
use Rattle.volume.specs.Meeting.{Usable}
use Rattle.volume.specs.Rebuilding.{Agree}
use Rattle.volume.specs.Volume.{cylinders_of, map_at, entry_at, root_at}

-- the entry of r is changed by f: marked for a bit, or the root entry of a new object
abbrev pub WrittenMapLaw : Type 0
WrittenMapLaw = (blocks : List Block) (r : ℕ) (bytes : List ℕ) (entries : List Entry) (f : Entry → Entry) → map_at blocks (cylinder_of r) ≡ Some entries →
    decoded_map (cylinders_of blocks) (cylinder_of r) bytes ≡ Some (slice_set entries (sector_of r) (f (slice_index_or entries (sector_of r) Map))) →
    MapFor blocks (cylinder_of r) bytes (λ a. cond (a == r) (f (entry_at blocks a)) (entry_at blocks a))

abbrev pub NoPositionLaw : Type 0
NoPositionLaw = (blocks : List Block) → Usable blocks → (r tag p : ℕ) → 64 ≤ p → Becomes (entry_at blocks) (32 * cylinders_of blocks) r tag p None

pub record LeftAlone : Type 0 where
  pub entries : (blocks : List Block) (a : ℕ) (x : Block) → 0 < sector_of a → entry_at (slice_set blocks a x) ≡ entry_at blocks
  pub roots_by_data : (blocks : List Block) (a : ℕ) (x : Block) → 5 ≤ sector_of a → root_at (slice_set blocks a x) ≡ root_at blocks
  pub roots_by_map : (blocks : List Block) (c : ℕ) (x : Block) → c < cylinders_of blocks → root_at (slice_set blocks (32 * c) x) ≡ root_at blocks

-- every root block was due, and the one of r will be
abbrev pub RootStoreLaw : Type 0
RootStoreLaw = (blocks : List Block) (r : ℕ) (bytes : List ℕ) (E : Entries) → r < 32 * cylinders_of blocks → root_place r ≡ true → Agreeing blocks →
    OthersStay r (entry_at blocks) E → decoded_root (cylinders_of blocks) r bytes ≡ Some (due E (32 * cylinders_of blocks) r) →
    Agree E (root_at (slice_set blocks r (Block.readable bytes))) (32 * cylinders_of blocks)
