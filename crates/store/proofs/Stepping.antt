-- A step leaves a steady model steady, whichever model it is: what the type says of stores, said of the models of a run.
use Rattle.std.proofs.Common.{◌≡◌, ℕ, ◌/◌, ◌%◌, Bool, true, false, not, ◌&&◌, eqb, leb, length, Some, None, Ok, Err, Option, Result, sym, refl, ap, ◌∙◌, subst, arith}
use Rattle.std.proofs.lemmas.Bool.{and_parts, eqb-true, leb-true}
use Rattle.device.specs.PlanLaws.{wrote_length}
use Rattle.formatting.specs.Formatting.{index_of, format_plan}
use Rattle.map.specs.declared.identifier.Identifier.{Identifier}
use Rattle.store.proofs.Following.{ReadyFor, ready_when}
use Rattle.store.proofs.Steadiness.{same_size}
use Rattle.store.specs.Admission.{admitted}
use Rattle.store.specs.Decisions.{Decision, Follows, decide, unless}
use Rattle.store.specs.Formatting.{sized, lit_up, format_rule}
use Rattle.store.specs.Model.{Model, Steady}
use Rattle.store.specs.Runs.{on_open, on_waiting, id_of, Answers, Step}
use Rattle.store.specs.Steady.{SteadyIn}
use Rattle.store.specs.Transactions.{no_rows}
use Rattle.store.specs.declared.calls.Answer.{Answer}
use Rattle.store.specs.declared.calls.Call.{Call}
use Rattle.store.specs.declared.calls.Call.TheVariants as call
use Rattle.store.specs.declared.phase.Asked.{Asked}
use Rattle.store.specs.declared.phase.Phase.{Phase}
use Rattle.store.specs.declared.phase.Phase.TheVariants as phase
use Rattle.store.specs.declared.refusals.Refusal.{Refusal}
use Rattle.store.specs.declared.refusals.Refusal.TheVariants as refusal
use Rattle.store.specs.declared.tickets.OpenTicket.{OpenTicket}
use Rattle.store.specs.declared.tickets.WaitingTicket.{WaitingTicket}

-- a decision that stores only on a ready device
abbrev pub OnlyReady : {A : Type 0} → Decision A → Model → Type 0
OnlyReady (Decision.refuse why) m = Unit {0}
OnlyReady (Decision.go plan answer after rows) m = ReadyFor m

any_ready : {A : Type 0} (d : Decision A) (m : Model) → ReadyFor m → OnlyReady d m
any_ready (Decision.refuse why) m ready = tt
any_ready (Decision.go plan answer after rows) m ready = ready

-- a ready device makes any phase steady
ready_steady : (m : Model) → ReadyFor m → Steady m
ready_steady m ready = by m.phase
  where
    by : (p : Phase) → SteadyIn p m.blocks m.lit
    by phase.Down = tt
    by phase.Idle = ready
    by (phase.Open id) = ready
    by (phase.Waiting id) = ready

down_steady : (m : Model) → m.phase ≡ phase.Down → Steady m
down_steady m down = subst (λ p. SteadyIn p m.blocks m.lit) (sym down) tt

pub follows_steady : {A : Type 0} (d : Decision A) (m end : Model) (r : Result A Refusal) → Steady m → OnlyReady d m → Follows d m r end → Steady end
follows_steady (Decision.refuse why) m end r steady only f = subst Steady (sym f.1) steady
follows_steady (Decision.go plan answer after rows) m end (Ok x) steady only f =
    ready_steady end (same_size m.blocks end.blocks m.lit end.lit only (ap length f.stored ∙ wrote_length m.blocks plan) f.on)
follows_steady (Decision.go plan answer after rows) m end (Err why) steady only f = down_steady end f.down

-- a rule that asks for admission first
pub admitted_only : {A : Type 0} (ask : Asked) (more : Unit {0} → Decision A) (m : Model) → Steady m → OnlyReady (decide (admitted m.phase ask) more) m
admitted_only ask more m steady = by (admitted m.phase ask) refl
  where
    by : (o : Result (Unit {0}) Refusal) → o ≡ admitted m.phase ask → OnlyReady (decide o more) m
    by (Ok x) is = any_ready (more x) m (ready_when m ask steady is)
    by (Err why) is = tt

-- format lights the device, and stores only if its size is one
lit_steady : (m : Model) → Steady m → Steady (lit_up m)
lit_steady m steady = by m.phase steady
  where
    by : (p : Phase) → SteadyIn p m.blocks m.lit → SteadyIn p m.blocks true
    by phase.Down s = tt
    by phase.Idle s = record { on = refl; long = s.long; some = s.some; few = s.few }
    by (phase.Open id) s = record { on = refl; long = s.long; some = s.some; few = s.few }
    by (phase.Waiting id) s = record { on = refl; long = s.long; some = s.some; few = s.few }

sized_ready : (m : Model) → sized (length m.blocks) ≡ true → ReadyFor (lit_up m)
sized_ready m is =
    let n = length m.blocks in
    let outer = and_parts (eqb (n % 32) 0 && leb 32 n) (leb n 2048) is in
    let inner = and_parts (eqb (n % 32) 0) (leb 32 n) outer.0 in
    let whole = eqb-true (n % 32) 0 inner.0 in
    let low = leb-true 32 n inner.1 in
    let high = leb-true n 2048 outer.1 in
    record { on = refl; long = omega arith; some = omega arith; few = omega arith }

format_only : (tag : ℕ) (m : Model) → OnlyReady (format_rule tag (lit_up m)) (lit_up m)
format_only tag m = by (eqb tag 0) (sized (length m.blocks)) refl
  where
    by : (zero : Bool) (fits : Bool) → sized (length m.blocks) ≡ fits →
        OnlyReady (unless zero refusal.TagZero (unless (not fits) refusal.Size (Decision.go (format_plan (index_of tag) (length m.blocks / 32)) (index_of tag) phase.Idle no_rows))) (lit_up m)
    by true fits is = tt
    by false true is = sized_ready m is
    by false false is = tt

open_only : {A : Type 0} (o : Option Identifier) (rule : OpenTicket → Model → Decision A) (m : Model) → ((t : OpenTicket) → OnlyReady (rule t m) m) → OnlyReady (on_open o rule m) m
open_only None rule m only = tt
open_only (Some id) rule m only = only (record { id = id })

waiting_only : {A : Type 0} (o : Option Identifier) (rule : WaitingTicket → Model → Decision A) (m : Model) → ((t : WaitingTicket) → OnlyReady (rule t m) m) → OnlyReady (on_waiting o rule m) m
waiting_only None rule m only = tt
waiting_only (Some id) rule m only = only (record { id = id })

-- what a call answers and leaves
by_answer : {X : Type 0} {f : X → Answer} {a : Answer} (d : Decision X) (m end : Model) → Steady m → OnlyReady d m → Answers d f m a end → Steady end
by_answer d m end steady only h = follows_steady d m end h.result steady only h.follows

pub step_steady : (c : Call) (m : Model) (a : Answer) (end : Model) → Steady m → Step c m a end → Steady end
step_steady (call.Format tag) m a end steady h = by_answer _ (lit_up m) end (lit_steady m steady) (format_only tag m) h
step_steady (call.Create index e kind tag) m a end steady h = by_answer _ m end steady (admitted_only _ _ m steady) h
step_steady (call.Preserve index e object) m a end steady h = by_answer _ m end steady (admitted_only _ _ m steady) h
step_steady (call.Delete index e) m a end steady h = by_answer _ m end steady (admitted_only _ _ m steady) h
step_steady (call.Retrieve index e) m a end steady h = by_answer _ m end steady (admitted_only _ _ m steady) h
step_steady (call.Read object offset n) m a end steady h = follows_steady _ m end h.result steady (admitted_only _ _ m steady) h.follows
step_steady (call.Begin object) m a end steady h = by_answer _ m end steady (admitted_only _ _ m steady) h
step_steady (call.Stage ticket p first words) m a end steady h = by_answer _ m end steady (open_only (id_of ticket) _ m (λ t. admitted_only _ _ m steady)) h
step_steady (call.Clear ticket p) m a end steady h = by_answer _ m end steady (open_only (id_of ticket) _ m (λ t. admitted_only _ _ m steady)) h
step_steady (call.Commit ticket) m a end steady h = by_answer _ m end steady (open_only (id_of ticket) _ m (λ t. admitted_only _ _ m steady)) h
step_steady (call.Settle ticket) m a end steady h = by_answer _ m end steady (waiting_only (id_of ticket) _ m (λ t. admitted_only _ _ m steady)) h
step_steady (call.Abandon ticket) m a end steady h = by_answer _ m end steady (open_only (id_of ticket) _ m (λ t. admitted_only _ _ m steady)) h
