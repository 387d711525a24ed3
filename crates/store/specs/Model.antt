-- What a store is at one moment.
--   Model    the blocks and the power of its device, its phase and its rows
--   seen     the model of a store, given the meaning of its device
--   Looks    what a look at the device tells a call
--   Steady   the model of a store that is down, or up over a lit device of whole cylinders
--   always_steady   every store is
use Rattle.std.specs.Prelude.{◌≡◌, Bool, List}
use Rattle.device.specs.Blocks.{Block}
use Rattle.device.specs.declared.device.Device.{Ghosts}
use Rattle.journal.specs.Carried.{Ready}
use Rattle.journal.specs.declared.row.Row.{Row}
use Rattle.store.specs.declared.phase.Phase.{Phase}
use Rattle.store.specs.Steady.{SteadyIn}
use Rattle.store.specs.declared.stores.Store.{Store}
use Rattle.volume.specs.Volume.{cylinders_of}

pub record Model : Type 0 where
  pub blocks : List Block
  pub lit : Bool
  pub phase : Phase
  pub rows : List Row

abbrev pub seen : {D : Type 0} → (meaning : Ghosts D) → Store D meaning → Model
seen meaning store = record { blocks = meaning.blocks store.device; lit = meaning.lit store.device; phase = store.phase; rows = store.table.rows }

abbrev pub Steady : Model → Type 0
Steady m = SteadyIn m.phase m.blocks m.lit

pub always_steady : {D : Type 0} (meaning : Ghosts D) (store : Store D meaning) → Steady (seen meaning store)
always_steady meaning store = store.steady

-- a call's look at its device: on a ready one the answer is what f says of the blocks, and the store stays
abbrev pub Looks : {D X : Type 0} → (meaning : Ghosts D) → (List Block → X) → Store D meaning → X → Store D meaning → Type 0
Looks meaning f store r store' =
    Ready (meaning.blocks store.device) (meaning.lit store.device) (cylinders_of (meaning.blocks store.device)) →
    (r ≡ f (meaning.blocks store.device)) × (seen meaning store' ≡ seen meaning store)
