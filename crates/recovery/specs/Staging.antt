-- A store at a free data block, as a transaction makes one for each new block.
--   Staged      the volume is as it was, but for what a block holds that no entry names
--   StageLaw    such a store leaves it so, done or cut in any manner
use Rattle.std.specs.Prelude.{◌≡◌, ℕ, ◌<◌, ◌≤◌, List, length}
use Rattle.device.specs.Blocks.{Block, left_by}
use Rattle.device.specs.declared.answers.Manner.{Manner}
use Rattle.map.specs.Addresses.{sector_of}
use Rattle.map.specs.declared.entry.Entry.TheVariants.{Free}
use Rattle.volume.specs.Meeting.{Rest}
use Rattle.volume.specs.Recoverable.{Complete}
use Rattle.volume.specs.Volume.{entry_at, root_at, counted}

-- at rest and complete, with the same entries, root blocks and objects
pub record Staged (blocks after : List Block) : Type 0 where
  pub rest : Rest after
  pub complete : Complete after
  pub entries : entry_at after ≡ entry_at blocks
  pub roots : root_at after ≡ root_at blocks
  pub shows : (r : ℕ) → counted after r ≡ counted blocks r

-- of a volume at rest; a store that is done leaves what one leaves that is cut new
abbrev pub StageLaw : Type 0
StageLaw = (blocks : List Block) (a : ℕ) (m : Manner) (bytes : List ℕ) → Rest blocks → Complete blocks → a < length blocks → 5 ≤ sector_of a → entry_at blocks a ≡ Free →
    Staged blocks (left_by m blocks a bytes)
