-- What is true of every store: it is down, or up over a lit device of whole cylinders.
--   SteadyIn       the same of its phase, the blocks of its device, and whether that is lit
--   SteadyIn-prop  it has one proof at most
use Rattle.std.specs.Prelude.{ℕ, Bool, List}
use Rattle.std.specs.Coded.{Unit-prop}
use Rattle.std.proofs.Props.{props}
use Rattle.device.specs.Blocks.{Block}
use Rattle.journal.specs.Carried.{Ready}
use Rattle.store.specs.declared.phase.Phase.{Phase}
use Rattle.store.specs.declared.phase.Phase.TheVariants as phase
use Rattle.volume.specs.Volume.{cylinders_of}

abbrev pub SteadyIn : Phase → List Block → Bool → Type 0
SteadyIn phase.Down blocks lit = Unit {0}
SteadyIn phase.Idle blocks lit = Ready blocks lit (cylinders_of blocks)
SteadyIn (phase.Open id) blocks lit = Ready blocks lit (cylinders_of blocks)
SteadyIn (phase.Waiting id) blocks lit = Ready blocks lit (cylinders_of blocks)

Ready-prop : (blocks : List Block) (lit : Bool) (cylinders : ℕ) → IsProp (Ready blocks lit cylinders)
Ready-prop blocks lit cylinders = Prim.hlevel props

pub SteadyIn-prop : (p : Phase) (blocks : List Block) (lit : Bool) → IsProp (SteadyIn p blocks lit)
SteadyIn-prop phase.Down blocks lit = Unit-prop
SteadyIn-prop phase.Idle blocks lit = Ready-prop blocks lit (cylinders_of blocks)
SteadyIn-prop (phase.Open id) blocks lit = Ready-prop blocks lit (cylinders_of blocks)
SteadyIn-prop (phase.Waiting id) blocks lit = Ready-prop blocks lit (cylinders_of blocks)
