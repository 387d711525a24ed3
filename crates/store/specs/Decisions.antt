-- What a call decides, and what it then does.
--   Decision   a refusal; or a list of stores, the answer, and the phase and rows once the stores are done
--   Fallen     power failed inside the list: the answer is down, the store is down, its rows stay
--   Follows    what a store does that follows a decision
--   Obeys      a call of a store obeys a rule, which decides by the model
--   StoresAll the stores of a plan and nothing else
--   decide     a step of a rule that may refuse
use Rattle.std.specs.Prelude.{◌≡◌, Bool, true, false, List, Ok, Err, Result}
use Rattle.device.specs.Blocks.{Block}
use Rattle.device.specs.Plans.{Write, wrote, CutIn}
use Rattle.device.specs.declared.device.Device.{Ghosts}
use Rattle.journal.specs.Carried.{Ready}
use Rattle.journal.specs.declared.row.Row.{Row}
use Rattle.store.specs.Model.{Model, seen}
use Rattle.store.specs.declared.phase.Phase.{Phase}
use Rattle.store.specs.declared.phase.Phase.TheVariants as phase
use Rattle.store.specs.declared.refusals.Refusal.{Refusal}
use Rattle.store.specs.declared.refusals.Refusal.TheVariants as refusal
use Rattle.store.specs.declared.stores.Store.{Store}
use Rattle.volume.specs.Volume.{cylinders_of}

pub data Decision (A : Type 0) : Type 0 where
  refuse : Refusal → Decision A
  go : List Write → A → Phase → List Row → Decision A

pub record Fallen (m : Model) (plan : List Write) (why : Refusal) (m' : Model) : Type 0 where
  pub answer : why ≡ refusal.Down
  pub down : m'.phase ≡ phase.Down
  pub dark : m'.lit ≡ false
  pub cut : CutIn m.blocks plan m'.blocks
  pub same_rows : m'.rows ≡ m.rows

pub record WentOn {A : Type 0} (m : Model) (plan : List Write) (answer : A) (after : Phase) (rows : List Row) (r : A) (m' : Model) : Type 0 where
  pub answered : r ≡ answer
  pub stored : m'.blocks ≡ wrote m.blocks plan
  pub on : m'.lit ≡ true
  pub phase : m'.phase ≡ after
  pub new_rows : m'.rows ≡ rows

abbrev pub Goes : {A : Type 0} → Model → List Write → A → Phase → List Row → Result A Refusal → Model → Type 0
Goes m plan answer after rows (Ok r) m' = WentOn m plan answer after rows r m'
Goes m plan answer after rows (Err why) m' = Fallen m plan why m'

abbrev pub Follows : {A : Type 0} → Decision A → Model → Result A Refusal → Model → Type 0
Follows (Decision.refuse why) m r m' = (r ≡ Err why) × (m' ≡ m)
Follows (Decision.go plan answer after rows) m r m' = Goes m plan answer after rows r m'

abbrev pub Obeys : {D A : Type 0} → (meaning : Ghosts D) → (Model → Decision A) → Store D meaning → Result A Refusal → Store D meaning → Type 0
Obeys meaning rule store r store' = Follows (rule (seen meaning store)) (seen meaning store) r (seen meaning store')

-- a step of a rule: refused, or on with what it found
abbrev pub decide : {X A : Type 0} → Result X Refusal → (X → Decision A) → Decision A
decide (Ok x) more = more x
decide (Err why) more = Decision.refuse why

-- two steps, one after the other
abbrev pub bound : {X Y : Type 0} → Result X Refusal → (X → Result Y Refusal) → Result Y Refusal
bound (Ok x) f = f x
bound (Err why) f = Err why

-- a test of a rule
abbrev pub unless : {A : Type 0} → Bool → Refusal → Decision A → Decision A
unless true why more = Decision.refuse why
unless false why more = more

-- on a ready device, the stores of a plan and nothing else; where power fails, the store is down
abbrev pub StoresAll : {D A : Type 0} → (meaning : Ghosts D) → (List Block → List Write) → A → Store D meaning → Result A Refusal → Store D meaning → Type 0
StoresAll meaning plan answer store r store' =
    Ready (meaning.blocks store.device) (meaning.lit store.device) (cylinders_of (meaning.blocks store.device)) →
    Goes (seen meaning store) (plan (seen meaning store).blocks) answer (seen meaning store).phase (seen meaning store).rows r (seen meaning store')
