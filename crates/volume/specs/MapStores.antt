-- What a store at a cylinder map does to the objects that a restart would show.
--   Sound          every map can be used, no two counted entries share object and position, and root blocks
--                  are those that are due
--   TornMapLaw     while a volume is sound, losing any one map changes nothing that a restart would show
--   map_changed    the entries with those of one cylinder taken from a list
--   MapStoreLaw    a map that is stored whole changes the entries of its cylinder to those that were written
use Rattle.std.specs.Prelude.{◌≡◌, ℕ, ◌*◌, ◌<◌, cond, List, Some, ◌==◌, slice_index_or, slice_set}
use Rattle.device.specs.Blocks.{Block}
use Rattle.map.specs.Addresses.{cylinder_of, sector_of}
use Rattle.map.specs.Maps.{decoded_map}
use Rattle.map.specs.declared.entry.Entry.{Entry}
use Rattle.map.specs.declared.entry.Entry.TheVariants.{Map}
use Rattle.volume.specs.Counting.{Entries}
use Rattle.volume.specs.Meeting.{Usable}
use Rattle.volume.specs.Rebuilding.{Agree, SingleClaims}
use Rattle.volume.specs.Volume.{cylinders_of, entry_at, root_at, counted}

pub record Sound (blocks : List Block) : Type 0 where
  pub usable : Usable blocks
  pub single : SingleClaims (entry_at blocks) (32 * cylinders_of blocks)
  pub agree : Agree (entry_at blocks) (root_at blocks) (32 * cylinders_of blocks)

abbrev pub TornMapLaw : Type 0
TornMapLaw = (blocks : List Block) (c : ℕ) → c < cylinders_of blocks → Sound blocks → (r : ℕ) → r < 32 * cylinders_of blocks →
    counted (slice_set blocks (32 * c) Block.unreadable) r ≡ counted blocks r

abbrev pub map_changed : ℕ → List Entry → Entries → Entries
map_changed c entries E a = cond (cylinder_of a == c) (slice_index_or entries (sector_of a) Map) (E a)

abbrev pub MapStoreLaw : Type 0
MapStoreLaw = (blocks : List Block) (c : ℕ) (bytes : List ℕ) (entries : List Entry) → c < cylinders_of blocks → decoded_map (cylinders_of blocks) c bytes ≡ Some entries →
    entry_at (slice_set blocks (32 * c) (Block.readable bytes)) ≡ map_changed c entries (entry_at blocks)
