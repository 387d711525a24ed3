-- Doing it twice is doing it once, and what a restart finds when one map is lost.
--   Once           settling, clearing and rebuilding a second time changes nothing
--   LostAccepted   of a sound volume, whichever map is lost, every root block can be used and no address is
--                  held twice
use Rattle.std.specs.Prelude.{◌≡◌, ℕ, ◌*◌, ◌<◌, true, List, Some}
use Rattle.device.specs.Blocks.{Block}
use Rattle.map.specs.Addresses.{root_place}
use Rattle.map.specs.declared.entry.Entry.{Entry}
use Rattle.object.specs.declared.root.RootBlock.{RootBlock}
use Rattle.volume.specs.Counting.{Entries}
use Rattle.volume.specs.MapStores.{Sound}
use Rattle.volume.specs.Rebuilding.{RootBlocks, block_holds, rebuilt}
use Rattle.volume.specs.Settling.{settled, cleared}
use Rattle.volume.specs.Volume.{cylinders_of, root_at}

pub record Once : Type 0 where
  pub settling : (E : Entries) (e : Entry) → settled E (settled E e) ≡ settled E e
  pub clearing : (e : Entry) → cleared (cleared e) ≡ cleared e
  pub rebuilding : (E : Entries) (R : RootBlocks) (n c : ℕ) → rebuilt (rebuilt E R n c) R n c ≡ rebuilt E R n c

pub record Acceptable (blocks : List Block) : Type 0 where
  pub roots : (r : ℕ) → r < 32 * cylinders_of blocks → root_place r ≡ true → (root : RootBlock) × (root_at blocks r ≡ Some root)
  pub held_once : (r q p s a : ℕ) → r < 32 * cylinders_of blocks → q < 32 * cylinders_of blocks → p < 64 → s < 64 → a < 32 * cylinders_of blocks → 0 < a →
      block_holds (root_at blocks r) p a ≡ true → block_holds (root_at blocks q) s a ≡ true → (r ≡ q) × (p ≡ s)

abbrev pub LostAccepted : Type 0
LostAccepted = (blocks : List Block) → Sound blocks → Acceptable blocks
