-- Volumes that a restart accepts, and what it then shows.
--   Complete     every map can be used, no two counted entries share object and position, the counted blocks
--                of every index can be read, and an index remains at block 1
--   Recoverable  complete; or one map cannot be read, and with some map in its place the volume would be
--                complete, with root blocks that agree
--   Meaning      a recoverable volume together with the objects that a restart would show
--   KeptByStores   tearing a map, any store at a root place or a free data block, and storing a map by which the
--                entries count the same keep a volume recoverable, with the same meaning
use Rattle.std.specs.Prelude.{◌≡◌, ℕ, ◌*◌, ◌<◌, ◌≤◌, true, false, List, length, Some, Option, ◌≢◌, slice_set}
use Rattle.device.specs.Blocks.{Block, block_at}
use Rattle.map.specs.Addresses.{sector_of, root_place}
use Rattle.map.specs.Maps.{decoded_map}
use Rattle.map.specs.declared.entry.Entry.{Entry}
use Rattle.map.specs.declared.kind.Kind.TheVariants as kind
use Rattle.volume.specs.Counting.{Held, remains_as, counted_at}
use Rattle.volume.specs.Laws.{Same}
use Rattle.volume.specs.MapStores.{map_changed}
use Rattle.volume.specs.Meeting.{Usable}
use Rattle.volume.specs.Rebuilding.{Agree, SingleClaims}
use Rattle.volume.specs.Volume.{cylinders_of, entry_at, root_at, is_unreadable, restart_entries, Object, counted}

pub record Complete (blocks : List Block) : Type 0 where
  pub usable : Usable blocks
  pub single : SingleClaims (entry_at blocks) (32 * cylinders_of blocks)
  pub indexes : (r p a : ℕ) (object : Held) → r < 32 * cylinders_of blocks → remains_as (entry_at blocks r) ≡ Some object → object.kind ≡ kind.Index →
      counted_at (entry_at blocks) (32 * cylinders_of blocks) r p ≡ Some a → is_unreadable (block_at blocks a) ≡ false
  pub root_index : (object : Held) × (remains_as (entry_at blocks 1) ≡ Some object) × (object.kind ≡ kind.Index)

-- a volume before one of its maps was lost
pub record BeforeLoss (blocks : List Block) (c : ℕ) : Type 0 where
  pub whole : List Block
  pub inside : c < cylinders_of whole
  pub complete : Complete whole
  pub agree : Agree (entry_at whole) (root_at whole) (32 * cylinders_of whole)
  pub lost : blocks ≡ slice_set whole (32 * c) Block.unreadable

pub data Recoverable (blocks : List Block) : Type 0 where
  complete : Complete blocks → Recoverable blocks
  one_lost : (c : ℕ) → BeforeLoss blocks c → Recoverable blocks

-- the objects that a restart would show
pub record Meaning (blocks : List Block) (objects : ℕ → Option Object) : Type 0 where
  pub recoverable : Recoverable blocks
  pub shows : (r : ℕ) → r < 32 * cylinders_of blocks → counted blocks r ≡ objects r

pub record KeptByStores : Type 0 where
  -- a torn store at a map of a complete volume with root blocks that agree
  pub torn_map : (blocks : List Block) (c : ℕ) (objects : ℕ → Option Object) → c < cylinders_of blocks → Complete blocks →
      Agree (entry_at blocks) (root_at blocks) (32 * cylinders_of blocks) → Meaning blocks objects → Meaning (slice_set blocks (32 * c) Block.unreadable) objects
  -- any store at a root place of a complete volume
  pub root_place : (blocks : List Block) (a : ℕ) (x : Block) (objects : ℕ → Option Object) → root_place a ≡ true → Complete blocks →
      Meaning blocks objects → Meaning (slice_set blocks a x) objects
  -- any store at a data block of a complete volume that counts for no position
  pub free_block : (blocks : List Block) (a : ℕ) (x : Block) (objects : ℕ → Option Object) → a < length blocks → 5 ≤ sector_of a → Complete blocks →
      ((r p : ℕ) → counted_at (restart_entries blocks) (32 * cylinders_of blocks) r p ≢ Some a) → Meaning blocks objects → Meaning (slice_set blocks a x) objects
  -- a whole store at a map of a complete volume, by which the entries count the same: intentions, settling, clearing
  pub whole_map : (blocks : List Block) (c : ℕ) (bytes : List ℕ) (entries : List Entry) (objects : ℕ → Option Object) → c < cylinders_of blocks →
      decoded_map (cylinders_of blocks) c bytes ≡ Some entries → Complete blocks →
      Same (32 * cylinders_of blocks) (entry_at blocks) (map_changed c entries (entry_at blocks)) →
      Meaning blocks objects → Meaning (slice_set blocks (32 * c) (Block.readable bytes)) objects
