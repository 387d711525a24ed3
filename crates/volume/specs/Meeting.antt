-- A volume at rest: what a store that is up reads is what a restart would show.
--   Usable        every map can be read and is well formed
--   Quiet         an entry with no intention and no commit bit; a data entry counts
--   Rest          usable, every entry quiet, no two counted entries for one position, root blocks as they are due
--   HeldOnce      a data block is allocated exactly when one root block holds it, at one position
--   MeetingLaw
use Rattle.std.specs.Prelude.{◌≡◌, ℕ, ◌*◌, ◌<◌, true, false, List, Some}
use Rattle.device.specs.Blocks.{Block}
use Rattle.map.specs.declared.entry.DataState.TheVariants as data_state
use Rattle.map.specs.declared.entry.Entry.{Entry}
use Rattle.map.specs.declared.entry.Entry.TheVariants.{Map, Free, Root, Data}
use Rattle.map.specs.declared.entry.RootState.TheVariants as root_state
use Rattle.map.specs.declared.identifier.Identifier.{Identifier}
use Rattle.volume.specs.Counting.{Entries, counts}
use Rattle.volume.specs.Rebuilding.{Agree, SingleClaims, block_holds}
use Rattle.volume.specs.Volume.{cylinders_of, map_at, entry_at, root_at, counted, shown}

abbrev pub Usable : List Block → Type 0
Usable blocks = (c : ℕ) → c < cylinders_of blocks → (entries : List Entry) × (map_at blocks c ≡ Some entries)

abbrev pub Quiet : Entries → Entry → Type 0
Quiet E Map = Unit {0}
Quiet E Free = Unit {0}
Quiet E (Root root_state.Allocated kind commit tag) = commit ≡ false
Quiet E (Root root_state.IntendingToDeallocate kind commit tag) = ⊥
Quiet E (Data data_state.Allocated position owner) = counts E (Data data_state.Allocated position owner) ≡ true
Quiet E (Data data_state.IntendingToAllocate position owner) = ⊥
Quiet E (Data data_state.IntendingToDeallocate position owner) = ⊥

pub record Rest (blocks : List Block) : Type 0 where
  pub usable : Usable blocks
  pub quiet : (a : ℕ) → a < 32 * cylinders_of blocks → Quiet (entry_at blocks) (entry_at blocks a)
  pub single : SingleClaims (entry_at blocks) (32 * cylinders_of blocks)
  pub agree : Agree (entry_at blocks) (root_at blocks) (32 * cylinders_of blocks)

-- for every data block a: an entry names the root place and position that hold it, and whoever holds it is named
pub record HeldOnce (blocks : List Block) (a : ℕ) : Type 0 where
  pub held : (position : ℕ) (owner : Identifier) → entry_at blocks a ≡ Data data_state.Allocated position owner → block_holds (root_at blocks owner.root) position a ≡ true
  pub allocated : (r p : ℕ) → r < 32 * cylinders_of blocks → p < 64 → block_holds (root_at blocks r) p a ≡ true →
      (owner : Identifier) × (entry_at blocks a ≡ Data data_state.Allocated p owner) × (owner.root ≡ r)

abbrev pub MeetingLaw : Type 0
MeetingLaw = (blocks : List Block) → Rest blocks →
    ((r : ℕ) → r < 32 * cylinders_of blocks → shown blocks r ≡ counted blocks r)
    × ((a : ℕ) → a < 32 * cylinders_of blocks → 0 < a → HeldOnce blocks a)
