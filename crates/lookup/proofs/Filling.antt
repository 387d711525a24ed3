-- A buffer that is filled word by word.
use Rattle.std.proofs.Common.{◌≡◌, ℕ, ◌+◌, ◌*◌, ◌<◌, false, ltb, List, length, get_or, set, ap, ◌∙◌, ⊎_elim, arith}
use Rattle.std.proofs.lemmas.List.{length-set, get_or-set_same, get_or-set_other}
use Rattle.std.proofs.lemmas.Bool.{and_cases, cases_eq, ltb-false}
use Rattle.lookup.specs.Reading.{Filled, has_word}

module _ (f : ℕ → ℕ) (offset : ℕ) (buffer : List ℕ) where
  -- as far as another word, if no index reaches one between
  pub filled_to : (end end' : ℕ) → ((i : ℕ) → i < length buffer → offset + i < end' → offset + i < end) → Filled f offset end buffer → Filled f offset end' buffer
  filled_to end end' reach filled i h k = filled i h (reach i h k)

  -- one word more is put
  pub filled_put : (end t : ℕ) → offset + t ≡ end → t < length buffer → Filled f offset end buffer → Filled f offset (end + 1) (set buffer t (f end))
  filled_put end t here within filled i h k =
      let inside : i < length buffer = omega (arith, length-set buffer t (f end)) in
      ⊎_elim
      (λ (e : i ≡ t). ap (λ j. get_or (set buffer t (f end)) j 0) e ∙ get_or-set_same buffer t (f end) 0 within ∙ ap f (omega arith))
      (λ ne. get_or-set_other buffer t i (f end) 0 ne ∙ filled i inside (omega arith))
      (cases_eq i t)

  -- a position that has none of the words
  pub filled_past : (p : ℕ) → has_word offset (length buffer) p ≡ false → Filled f offset (256 * p) buffer → Filled f offset (256 * (p + 1)) buffer
  filled_past p none =
      filled_to (256 * p) (256 * (p + 1))
      (λ i h k.
      ⊎_elim
      (λ (e : ltb 0 (length buffer) ≡ false). absurd (omega (arith, ltb-false 0 (length buffer) e)))
      (λ e.
      ⊎_elim
      (λ (e : ltb (256 * p) (offset + length buffer) ≡ false). omega (arith, ltb-false (256 * p) (offset + length buffer) e))
      (λ (e : ltb offset (256 * p + 256) ≡ false). absurd (omega (arith, ltb-false offset (256 * p + 256) e)))
      (and_cases (ltb (256 * p) (offset + length buffer)) (ltb offset (256 * p + 256)) e))
      (and_cases (ltb 0 (length buffer)) _ none))
