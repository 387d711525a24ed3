-- A list of stores that changes one object, all of it or none.
--   ChangesWhole   once the list is carried out, the volume is complete, its root blocks agree, and the objects are
--                   those before with the one at root place r replaced
--   ChangesCut     power that fails anywhere in the list leaves the objects as before it, or as after it
use Rattle.std.specs.Prelude.{◌≡◌, ℕ, ◌*◌, ◌<◌, ◌⊎◌, List, Option}
use Rattle.device.specs.Blocks.{Block}
use Rattle.device.specs.Plans.{Write, wrote, CutIn}
use Rattle.volume.specs.Changing.{Agreeing, replaced}
use Rattle.volume.specs.Recoverable.{Complete, Meaning}
use Rattle.volume.specs.Volume.{cylinders_of, Object, counted}

-- the volume after every store, and what a restart would show of it
pub record ChangesWhole (blocks : List Block) (plan : List Write) (r : ℕ) (new : Option Object) : Type 0 where
  pub complete : Complete (wrote blocks plan)
  pub agree : Agreeing (wrote blocks plan)
  pub shows : (q : ℕ) → q < 32 * cylinders_of blocks → counted (wrote blocks plan) q ≡ replaced r new (counted blocks) q

-- the volume after a first part of the stores and one that is old, new or unreadable
abbrev pub ChangesCut : List Block → List Write → ℕ → Option Object → Type 0
ChangesCut blocks plan r new = (after : List Block) (objects : ℕ → Option Object) → CutIn blocks plan after → Meaning blocks objects →
    Meaning after objects ⊎ Meaning after (replaced r new objects)
