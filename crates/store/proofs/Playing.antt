-- One call more of a script.
use Rattle.std.proofs.Common.{◌≡◌, ℕ, ◌+◌, ◌<◌, List, [], ◌∷◌, ◌++◌, length, get_or, take, sym, ap, ◌∙◌, subst}
use Rattle.std.proofs.lemmas.List.{append-nil, append_assoc, take_more}
use Rattle.store.specs.Model.{Model, Steady}
use Rattle.store.specs.Runs.{Step, Run, Played}
use Rattle.store.specs.declared.calls.Answer.{Answer}
use Rattle.store.specs.declared.calls.Call.{Call}

pub played_none : (start : Model) (before : List Answer) → Steady start → Played start [] before before start
played_none start before steady = record { answers = []; log = sym (append-nil before); run = Run.none; steady = steady }

pub played_more : (start mid end : Model) (calls : List Call) (i : ℕ) (c : Call) (a : Answer) (before now after : List Answer) → i < length calls → c ≡ get_or calls i c →
    Played start (take i calls) before now mid → Step c mid a end → after ≡ now ++ a ∷ [] → Steady end → Played start (take (i + 1) calls) before after end
played_more start mid end calls i c a before now after h at played step pushed steady =
    let next : take (i + 1) calls ≡ take i calls ++ c ∷ [] = take_more calls i c h ∙ ap (λ x. take i calls ++ x ∷ []) (sym at) in
    record {
      answers = played.answers ++ a ∷ [];
      log = pushed ∙ ap (λ xs. xs ++ a ∷ []) played.log ∙ append_assoc before played.answers (a ∷ []);
      run = subst (λ cs. Run start cs (played.answers ++ a ∷ []) end) (sym next) (Run.more c a played.run step);
      steady = steady;
    }
