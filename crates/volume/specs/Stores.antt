-- What one store does to the objects that a restart would show, whatever it leaves: old, new or unreadable.
--   content_after   what a position shows once block a is x
--   DataBlockLaw  a store at a data block changes what the positions that it counts for show, and nothing else
--   FreeBlockLaw  so one at a data block that counts for none changes nothing
--   RootBlockLaw  while every map can be read, a store at a root place changes nothing
use Rattle.std.specs.Prelude.{◌≡◌, ℕ, ◌*◌, ◌<◌, ◌≤◌, true, cond, List, length, replicate, Some, None, Option, ◌==◌, ◌≢◌, slice_set}
use Rattle.device.specs.Blocks.{Block, block_at}
use Rattle.map.specs.Addresses.{sector_of, root_place}
use Rattle.volume.specs.Counting.{remains_as, counted_at}
use Rattle.volume.specs.Volume.{cylinders_of, lost_map, restart_entries, words_in, object_of, counted}

abbrev pub content_after : List Block → ℕ → Block → Option ℕ → Option (List ℕ)
content_after blocks a x None = Some (replicate 256 0)
content_after blocks a x (Some b) = cond (b == a) (words_in x) (words_in (block_at blocks b))

abbrev pub DataBlockLaw : Type 0
DataBlockLaw = (blocks : List Block) (a : ℕ) (x : Block) → a < length blocks → 5 ≤ sector_of a → (r : ℕ) →
    counted (slice_set blocks a x) r
    ≡ object_of (λ p. content_after blocks a x (counted_at (restart_entries blocks) (32 * cylinders_of blocks) r p)) (remains_as (restart_entries blocks r))

abbrev pub FreeBlockLaw : Type 0
FreeBlockLaw = (blocks : List Block) (a : ℕ) (x : Block) → a < length blocks → 5 ≤ sector_of a →
    ((r p : ℕ) → counted_at (restart_entries blocks) (32 * cylinders_of blocks) r p ≢ Some a) → (r : ℕ) → counted (slice_set blocks a x) r ≡ counted blocks r

abbrev pub RootBlockLaw : Type 0
RootBlockLaw = (blocks : List Block) (a : ℕ) (x : Block) → root_place a ≡ true → lost_map blocks ≡ None → (r : ℕ) → counted (slice_set blocks a x) r ≡ counted blocks r
