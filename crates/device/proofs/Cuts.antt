-- Why the store that is cut is the one that bears the armed cut's number.
use Rattle.std.proofs.Common.{◌≡◌, ℕ, ◌+◌, ◌<◌, ◌≤◌, true, false, cond, eqb, ltb, Ok, Err, List, length, get_or, sym, refl, ap, ◌∙◌, ap₂, ⊎_elim, arith}
use Rattle.std.proofs.lemmas.Bool.{cases_Bool, cases_lt, eqb-false, lt-ltb, ne_eqb, true≢false}
use Rattle.device.specs.Trials.{trial_blocks, never, armed_cut, hit, TrialStores, DoneInARow, NumberedStoreIsCut}
use Rattle.device.specs.declared.answers.StoreError.TheVariants as storing
use Rattle.device.specs.declared.cut.Cut.{Cut}
use Rattle.device.specs.declared.trial.Trial.{Trial}

-- after j done stores the armed cut is the same, and, unless it never happens, j are counted and it is still to come
record Ahead (t : Trial) (j : ℕ) (u : Trial) : Type 0 where
  same : armed_cut u ≡ armed_cut t
  counted : 0 < (armed_cut t).at → (u.stored ≡ j) × (j < (armed_cut t).at)

-- one store more, while the cut a is ahead and is not this store
counted_on : (a now before after j : ℕ) → now ≡ a → before ≡ j → j < a → eqb (before + 1) now ≡ false → after ≡ cond (ltb before now) (before + 1) before → (after ≡ j + 1) × (j + 1 < a)
counted_on a now before after j same was ahead missed counts =
    let apart = eqb-false (before + 1) now missed in
    let below = lt-ltb before now (omega arith) in
    let after_is : after ≡ before + 1 = rw below at counts in
    let beyond : (j + 1 ≡ a → ⊥) = λ e. apart (omega arith) in
    (omega arith, omega arith)

done_not_hit : (u v : Trial) (b : ℕ) (bytes : List ℕ) → b < length (trial_blocks u) → u.lit ≡ true → TrialStores u b bytes (Ok tt) v → hit u ≡ false
done_not_hit u v b bytes within on s =
    ⊎_elim
    (λ (h : hit u ≡ true). let e : Ok tt ≡ Err storing.Dark = (s.cut within on h).0 in absurd (true≢false cc))
    (λ (h : hit u ≡ false). h)
    (cases_Bool (hit u))

ahead : {t u : Trial} {j : ℕ} → t.stored ≡ 0 → DoneInARow t j u → Ahead t j u
ahead z DoneInARow.none = record { same = refl; counted = λ h. (z, h) }
ahead {t} z (DoneInARow.more {u = u} {v = v} {j = j} {b = b} {bytes = bytes} run within on s) =
    let was = ahead z run in
    let missed = done_not_hit u v b bytes within on s in
    let others = (s.done within on missed).3 in
    record {
      same = ap₂ (λ cuts i. get_or cuts i never) others.planned others.armed ∙ was.same;
      counted = λ h. counted_on (armed_cut t).at (armed_cut u).at u.stored v.stored j (ap (λ (cut : Cut). cut.at) was.same) (was.counted h).0 (was.counted h).1 missed others.stored;
    }

pub numbered_store_is_cut : NumberedStoreIsCut
numbered_store_is_cut t u j z run =
    let was = ahead z run in
    let at : (armed_cut u).at ≡ (armed_cut t).at = ap (λ (cut : Cut). cut.at) was.same in
    ⊎_elim
    (λ (h : 0 < (armed_cut t).at). ap₂ (λ n a. eqb (n + 1) a) (was.counted h).0 at)
    (λ (h : (armed_cut t).at ≤ 0). ne_eqb (u.stored + 1) (armed_cut u).at (λ e. omega arith) ∙ sym (ne_eqb (j + 1) (armed_cut t).at (λ e. omega arith)))
    (cases_lt 0 (armed_cut t).at)
