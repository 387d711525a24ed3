-- The stores of the tail of a change: maps settled, then commit bits cleared.
--   Finished    what they leave: a volume at rest that shows the same objects, with every block past the maps as it was
--   FinishLaw   done to the end they finish the volume; cut anywhere they leave its meaning
use Rattle.std.specs.Prelude.{◌≡◌, ℕ, ◌*◌, ◌<◌, List, length, Option}
use Rattle.device.specs.Blocks.{Block, block_at}
use Rattle.device.specs.Plans.{wrote, CutIn}
use Rattle.journal.specs.Finishing.{finish_plan}
use Rattle.map.specs.Addresses.{sector_of}
use Rattle.volume.specs.Changing.{Agreeing}
use Rattle.volume.specs.Meeting.{Rest}
use Rattle.volume.specs.Recoverable.{Complete, Meaning}
use Rattle.volume.specs.Volume.{cylinders_of, root_at, Object, counted}

pub record Finished (blocks after : List Block) : Type 0 where
  pub rest : Rest after
  pub complete : Complete after
  pub size : length after ≡ length blocks
  pub shows : (r : ℕ) → r < 32 * cylinders_of blocks → counted after r ≡ counted blocks r
  pub roots : root_at after ≡ root_at blocks
  -- root blocks and data blocks
  pub others : (a : ℕ) → 0 < sector_of a → block_at after a ≡ block_at blocks a

-- a complete volume of whole cylinders, with root blocks that agree
pub record FinishLaw : Type 0 where
  pub whole : (blocks : List Block) → length blocks ≡ 32 * cylinders_of blocks → Complete blocks → Agreeing blocks → Finished blocks (wrote blocks (finish_plan blocks))
  pub cut : (blocks after : List Block) (objects : ℕ → Option Object) → length blocks ≡ 32 * cylinders_of blocks → Complete blocks → Agreeing blocks →
      CutIn blocks (finish_plan blocks) after → Meaning blocks objects → Meaning after objects
