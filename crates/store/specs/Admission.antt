-- Which calls a phase takes.
--   admitted   the phase and what the call asks of it decide: refused as down, busy, or no such transaction
use Rattle.std.specs.Prelude.{cond, Ok, Err, Result}
use Rattle.map.specs.declared.identifier.Identifier.{Identifier}
use Rattle.journal.specs.Marking.{same_object}
use Rattle.store.specs.declared.phase.Asked.{Asked}
use Rattle.store.specs.declared.phase.Asked.TheVariants as asked
use Rattle.store.specs.declared.phase.Phase.{Phase}
use Rattle.store.specs.declared.phase.Phase.TheVariants as phase
use Rattle.store.specs.declared.refusals.Refusal.{Refusal}
use Rattle.store.specs.declared.refusals.Refusal.TheVariants as refusal

-- a transaction on this very object
abbrev pub on_it : Identifier → Identifier → Result (Unit {0}) Refusal
on_it x y = cond (same_object x y) (Ok tt) (Err refusal.NoSuchTransaction)

abbrev pub admitted : Phase → Asked → Result (Unit {0}) Refusal
admitted phase.Down ask = Err refusal.Down
admitted phase.Idle asked.Up = Ok tt
admitted phase.Idle asked.Idle = Ok tt
admitted phase.Idle (asked.Open y) = Err refusal.NoSuchTransaction
admitted phase.Idle (asked.Waiting y) = Err refusal.NoSuchTransaction
admitted (phase.Open x) asked.Up = Ok tt
admitted (phase.Open x) asked.Idle = Err refusal.Busy
admitted (phase.Open x) (asked.Open y) = on_it x y
admitted (phase.Open x) (asked.Waiting y) = Err refusal.NoSuchTransaction
admitted (phase.Waiting x) asked.Up = Ok tt
admitted (phase.Waiting x) asked.Idle = Err refusal.Busy
admitted (phase.Waiting x) (asked.Open y) = Err refusal.NoSuchTransaction
admitted (phase.Waiting x) (asked.Waiting y) = on_it x y
