-- How a call comes to follow its rule: admitted, looking at its device step by step, and storing in the end.
use Rattle.std.proofs.Common.{◌≡◌, ℕ, Bool, false, List, Ok, Err, IsErrAnd, Result, sym, ap, ◌∙◌, subst, arith}
use Rattle.std.proofs.lemmas.Bool.{true≢false}
use Rattle.device.specs.Blocks.{Block}
use Rattle.device.specs.Plans.{Write}
use Rattle.journal.specs.Carried.{Ready}
use Rattle.store.specs.Admission.{admitted}
use Rattle.store.specs.Decisions.{Decision, Goes, Follows, decide, unless}
use Rattle.store.specs.Model.{Model, Steady}
use Rattle.store.specs.Steady.{SteadyIn}
use Rattle.store.specs.declared.phase.Asked.{Asked}
use Rattle.store.specs.declared.phase.Phase.{Phase}
use Rattle.store.specs.declared.phase.Phase.TheVariants as phase
use Rattle.store.specs.declared.refusals.Refusal.{Refusal}
use Rattle.volume.specs.Volume.{cylinders_of}

abbrev pub ReadyFor : Model → Type 0
ReadyFor m = Ready m.blocks m.lit (cylinders_of m.blocks)

-- a steady store that takes a call is up, and its device ready
pub ready_when : (m : Model) (ask : Asked) → Steady m → Ok tt ≡ admitted m.phase ask → ReadyFor m
ready_when m ask steady ok = by m.phase steady ok
  where
    by : (p : Phase) → SteadyIn p m.blocks m.lit → Ok tt ≡ admitted p ask → ReadyFor m
    by phase.Down s e = absurd (true≢false cc)
    by phase.Idle s e = s
    by (phase.Open id) s e = s
    by (phase.Waiting id) s e = s

-- a look leaves the store as it was, and tells of its blocks
pub looked : {X : Type 0} (f : List Block → X) (m now after : Model) (x : X) → ReadyFor m → now ≡ m →
    (ReadyFor now → (x ≡ f now.blocks) × (after ≡ now)) → (x ≡ f m.blocks) × (after ≡ m)
looked f m now after x ready same look =
    let told = look (subst ReadyFor (sym same) ready) in
    (told.0 ∙ ap (λ (k : Model). f k.blocks) same, told.1 ∙ same)

-- the stores at the end
pub stored : {A : Type 0} (plan : List Block → List Write) (answer : A) (m now after : Model) (r : Result A Refusal) → ReadyFor m → now ≡ m →
    (ReadyFor now → Goes now (plan now.blocks) answer now.phase now.rows r after) → Goes m (plan m.blocks) answer m.phase m.rows r after
stored plan answer m now after r ready same goes =
    subst (λ (k : Model). Goes k (plan k.blocks) answer k.phase k.rows r after) same (goes (subst ReadyFor (sym same) ready))

-- an error that is known is the answer
pub err_is : {A : Type 0} (r : Result A Refusal) (why : Refusal) → IsErrAnd r (λ y. y ≡ why) → r ≡ Err why
err_is (Ok x) why h = absurd h
err_is (Err y) why h = ap Err h

-- one step of a rule
module _ {A : Type 0} (m : Model) (r : Result A Refusal) (after : Model) where
  pub decided : {X : Type 0} {d : Result X Refusal} {x : X} (more : X → Decision A) → Ok x ≡ d → Follows (more x) m r after → Follows (decide d more) m r after
  decided more is h = subst (λ o. Follows (decide o more) m r after) is h

  pub tested : {t : Bool} (why : Refusal) (more : Decision A) → t ≡ false → Follows more m r after → Follows (unless t why more) m r after
  tested {t} why more is h = subst (λ b. Follows (unless b why more) m r after) (sym is) h

  pub refused : {X : Type 0} {d : Result X Refusal} {why : Refusal} (more : X → Decision A) → Err why ≡ d → r ≡ Err why → after ≡ m → Follows (decide d more) m r after
  refused more is says same = subst (λ o. Follows (decide o more) m r after) is (says, same)
