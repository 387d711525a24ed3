-- What leaves a store steady: stores on its device, and where its phase goes by their answer.
use Rattle.std.proofs.Common.{◌≡◌, ℕ, ◌*◌, ◌/◌, ◌≤◌, Bool, true, List, length, Ok, Err, Result, is_ok, IfOk, IfErr, IsErr, sym, refl, ap, ◌∙◌, subst}
use Rattle.std.proofs.lemmas.Bool.{false≢true}
use Rattle.device.specs.Blocks.{Block}
use Rattle.device.specs.PlanLaws.{wrote_length}
use Rattle.device.specs.Plans.{Write, Runs}
use Rattle.device.specs.declared.device.Device.{Ghosts}
use Rattle.journal.specs.Carried.{Ready, Carried, CarriesAll, CompletesAll}
use Rattle.store.specs.Steady.{SteadyIn}
use Rattle.store.specs.declared.phase.Phase.{Phase}
use Rattle.store.specs.declared.phase.Phase.TheVariants as phase
use Rattle.store.specs.declared.refusals.Refusal.{Refusal}
use Rattle.store.specs.declared.refusals.Refusal.TheVariants as refusal
use Rattle.volume.specs.Volume.{cylinders_of}

module _ (blocks blocks' : List Block) (lit lit' : Bool) where
  pub same_size : Ready blocks lit (cylinders_of blocks) → length blocks' ≡ length blocks → lit' ≡ true → Ready blocks' lit' (cylinders_of blocks')
  same_size ready same on = record {
    on = on;
    long = same ∙ ready.long ∙ ap (λ n. 32 * (n / 32)) (sym same);
    some = subst (λ n. 1 ≤ n / 32) (sym same) ready.some;
    few = subst (λ n. n / 32 ≤ 64) (sym same) ready.few;
  }

  -- stores that were all done leave the device ready
  pub carried_ready : {E : Type 0} (plan : List Write) (r : Result ℕ E) → Ready blocks lit (cylinders_of blocks) → Carried blocks plan r blocks' lit' → is_ok r ≡ true → Ready blocks' lit' (cylinders_of blocks')
  carried_ready plan (Ok n) ready c is = same_size ready (ap length c.after ∙ wrote_length blocks plan) c.on
  carried_ready plan (Err e) ready c is = absurd (false≢true is)

  pub run_ready : {A E : Type 0} (on : Bool) (plan : List Write) (r : Result A E) → on ≡ true → Ready blocks lit (cylinders_of blocks) → Runs blocks on plan r blocks' lit' → is_ok r ≡ true → Ready blocks' lit' (cylinders_of blocks')
  run_ready on plan (Ok x) lights ready runs is = same_size ready (ap length runs.0 ∙ wrote_length blocks plan) (runs.1 lights)
  run_ready on plan (Err e) lights ready runs is = absurd (false≢true is)

  -- where the phase goes by what the stores answered
  pub stays_steady : {A E : Type 0} (p q : Phase) (r : Result A E) (x : Result A Refusal) → SteadyIn p blocks lit →
      (Ready blocks lit (cylinders_of blocks) → is_ok r ≡ true → Ready blocks' lit' (cylinders_of blocks')) →
      IfOk x (λ y. (r ≡ Ok y) × (q ≡ p)) → IfErr x (λ why. (why ≡ refusal.Down) × IsErr r × (q ≡ phase.Down)) → SteadyIn q blocks' lit'
  stays_steady p q r (Ok y) steady stores told cut = subst (λ k. SteadyIn k blocks' lit') (sym told.1) (by p steady)
    where
      by : (k : Phase) → SteadyIn k blocks lit → SteadyIn k blocks' lit'
      by phase.Down s = tt
      by phase.Idle s = stores s (ap is_ok told.0)
      by (phase.Open id) s = stores s (ap is_ok told.0)
      by (phase.Waiting id) s = stores s (ap is_ok told.0)
  stays_steady p q r (Err why) steady stores told cut = subst (λ k. SteadyIn k blocks' lit') (sym cut.2) tt

-- a list of stores on the device of a store, and the phase after it
module _ {D : Type 0} (meaning : Ghosts D) (d d' : D) (p q : Phase) where
  pub completed_steady : {A E : Type 0} (plan : List Block → List Write) (r : Result A E) (x : Result A Refusal) → SteadyIn p (meaning.blocks d) (meaning.lit d) →
      CompletesAll meaning d plan r d' → IfOk x (λ y. (r ≡ Ok y) × (q ≡ p)) → IfErr x (λ why. (why ≡ refusal.Down) × IsErr r × (q ≡ phase.Down)) → SteadyIn q (meaning.blocks d') (meaning.lit d')
  completed_steady plan r x steady stores told cut =
      stays_steady (meaning.blocks d) (meaning.blocks d') (meaning.lit d) (meaning.lit d') p q r x steady
      (λ ready is. run_ready (meaning.blocks d) (meaning.blocks d') (meaning.lit d) (meaning.lit d') true (plan (meaning.blocks d)) r refl ready (stores ready) is) told cut

  pub carried_steady : {E : Type 0} (plan : List Block → List Write) (r : Result ℕ E) (x : Result ℕ Refusal) → SteadyIn p (meaning.blocks d) (meaning.lit d) →
      CarriesAll meaning d plan r d' → IfOk x (λ y. (r ≡ Ok y) × (q ≡ p)) → IfErr x (λ why. (why ≡ refusal.Down) × IsErr r × (q ≡ phase.Down)) → SteadyIn q (meaning.blocks d') (meaning.lit d')
  carried_steady plan r x steady stores told cut =
      stays_steady (meaning.blocks d) (meaning.blocks d') (meaning.lit d) (meaning.lit d') p q r x steady
      (λ ready is. carried_ready (meaning.blocks d) (meaning.blocks d') (meaning.lit d) (meaning.lit d') (plan (meaning.blocks d)) r ready (stores ready) is) told cut
