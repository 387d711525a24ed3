-- Runs of calls.
--   answered     what a call answers, by its result
--   ticketed     the rule of a call on a transaction that is named by two numbers
--   Step         one call, by its own rule: the model before it, what it answers, the model after it
--   Run          calls one after another
--   Played       a script was played, with its answers at the end of a log
use Rattle.std.specs.Prelude.{◌≡◌, ℕ, min, List, [], ◌∷◌, ◌++◌, Some, None, Ok, Err, vec_items, Option, Result}
use Rattle.std.specs.Global.{Vec}
use Rattle.map.specs.Identifiers.{identified}
use Rattle.map.specs.declared.identifier.Identifier.{Identifier}
use Rattle.store.specs.Decisions.{Decision, Follows}
use Rattle.store.specs.Formatting.{lit_up, format_rule}
use Rattle.store.specs.Indexing.{retrieve_rule, preserve_rule, delete_rule, create_rule}
use Rattle.store.specs.Model.{Model, Steady}
use Rattle.store.specs.Naming.{named}
use Rattle.store.specs.Reading.{read_rule, words_of_found}
use Rattle.store.specs.Staging.{stage_rule}
use Rattle.store.specs.Transactions.{begin_rule, abandon_rule, clear_rule, commit_rule, settle_rule}
use Rattle.store.specs.declared.calls.Answer.{Answer}
use Rattle.store.specs.declared.calls.Answer.TheVariants as answer
use Rattle.store.specs.declared.calls.Call.{Call}
use Rattle.store.specs.declared.calls.Call.TheVariants as call
use Rattle.store.specs.declared.name.Name.{Name}
use Rattle.store.specs.declared.phase.Phase.{Phase}
use Rattle.store.specs.declared.phase.Phase.TheVariants as phase
use Rattle.store.specs.declared.refusals.Refusal.{Refusal}
use Rattle.store.specs.declared.refusals.Refusal.TheVariants as refusal
use Rattle.store.specs.declared.tickets.OpenTicket.{OpenTicket}
use Rattle.store.specs.declared.tickets.WaitingTicket.{WaitingTicket}

abbrev pub answered : {X : Type 0} → (X → Answer) → Result X Refusal → Answer
answered f (Ok x) = f x
answered f (Err why) = answer.Refused why

-- no transaction has a name that is no identifier
abbrev pub unnamed : Phase → Refusal
unnamed phase.Down = refusal.Down
unnamed phase.Idle = refusal.NoSuchTransaction
unnamed (phase.Open id) = refusal.NoSuchTransaction
unnamed (phase.Waiting id) = refusal.NoSuchTransaction

abbrev pub on_open : {A : Type 0} → Option Identifier → (OpenTicket → Model → Decision A) → Model → Decision A
on_open None rule m = Decision.refuse (unnamed m.phase)
on_open (Some id) rule m = rule (record { id = id }) m

abbrev pub on_waiting : {A : Type 0} → Option Identifier → (WaitingTicket → Model → Decision A) → Model → Decision A
on_waiting None rule m = Decision.refuse (unnamed m.phase)
on_waiting (Some id) rule m = rule (record { id = id }) m

abbrev pub id_of : Name → Option Identifier
id_of name = identified name.tag name.root

-- a call whose result is of type X, answered by f, follows a decision
pub record Answers {X : Type 0} (decision : Decision X) (f : X → Answer) (m : Model) (a : Answer) (m' : Model) : Type 0 where
  pub result : Result X Refusal
  pub follows : Follows decision m result m'
  pub answer_is : a ≡ answered f result

-- the words that a read shows; a longer read than 16,384 words is refused as one of 16,385 is
abbrev pub capped : ℕ → ℕ
capped n = min n 16385

-- an accepted read shows the words of the object that it names
abbrev pub ShownBy : Name → ℕ → ℕ → Model → Result (Unit {0}) Refusal → Answer → Type 0
ShownBy name offset n m (Ok _) a = (words : Vec ℕ) × (a ≡ answer.Shown words) × (vec_items words ≡ words_of_found m.blocks offset n (named m.blocks name))
ShownBy name offset n m (Err why) a = a ≡ answer.Refused why

pub record Shows (name : Name) (offset n : ℕ) (m : Model) (a : Answer) (m' : Model) : Type 0 where
  pub result : Result (Unit {0}) Refusal
  pub follows : Follows (read_rule name offset n m) m result m'
  pub shown : ShownBy name offset n m result a

abbrev pub Step : Call → Model → Answer → Model → Type 0
Step (call.Format tag) m a m' = Answers (format_rule tag (lit_up m)) answer.Named (lit_up m) a m'
Step (call.Create index e kind tag) m a m' = Answers (create_rule index e kind tag m) answer.Named m a m'
Step (call.Preserve index e object) m a m' = Answers (preserve_rule index e object m) (λ _. answer.Done) m a m'
Step (call.Delete index e) m a m' = Answers (delete_rule index e m) (λ _. answer.Done) m a m'
Step (call.Retrieve index e) m a m' = Answers (retrieve_rule index e m) answer.Found m a m'
Step (call.Read object offset n) m a m' = Shows object offset (capped n) m a m'
Step (call.Begin object) m a m' = Answers (begin_rule object m) (λ _. answer.Done) m a m'
Step (call.Stage ticket p first words) m a m' = Answers (on_open (id_of ticket) (λ t. stage_rule t p first (vec_items words)) m) (λ _. answer.Done) m a m'
Step (call.Clear ticket p) m a m' = Answers (on_open (id_of ticket) (λ t. clear_rule t p) m) (λ _. answer.Done) m a m'
Step (call.Commit ticket) m a m' = Answers (on_open (id_of ticket) commit_rule m) (λ x. answer.Counted x.1) m a m'
Step (call.Settle ticket) m a m' = Answers (on_waiting (id_of ticket) settle_rule m) answer.Counted m a m'
Step (call.Abandon ticket) m a m' = Answers (on_open (id_of ticket) abandon_rule m) (λ _. answer.Done) m a m'

pub data Run (start : Model) : List Call → List Answer → Model → Type 0 where
  none : Run start [] [] start
  more : {calls : List Call} {answers : List Answer} {m m' : Model} (c : Call) (a : Answer) → Run start calls answers m → Step c m a m' → Run start (calls ++ c ∷ []) (answers ++ a ∷ []) m'

-- a script was played: its answers stand at the end of the log, and they are those of a run
pub record Played (start : Model) (calls : List Call) (before after : List Answer) (end : Model) : Type 0 where
  pub answers : List Answer
  pub log : after ≡ before ++ answers
  pub run : Run start calls answers end
  pub steady : Steady end
