-- Values found one by one, and all of them together.
--   gathered   f at n numbers from a start on, if each has a value
use Rattle.std.specs.Prelude.{◌≡◌, ℕ, zero, suc, ◌+◌, ◌<◌, List, [], ◌∷◌, length, Some, None, Option, slice_index_or}
use Rattle.std.proofs.Math.Path.{refl, ap}
use Rattle.std.proofs.Common.{sym, ◌∙◌, arith}
use Rattle.std.proofs.lemmas.Bool.{true≢false}

abbrev pub both : {X : Type 0} → Option X → Option (List X) → Option (List X)
both None rest = None
both (Some x) None = None
both (Some x) (Some xs) = Some (x ∷ xs)

unfoldable pub gathered : {X : Type 0} → (ℕ → Option X) → ℕ → ℕ → Option (List X)
gathered f from zero = Some []
gathered f from (suc n) = both (f from) (gathered f (from + 1) n)

module _ {X : Type 0} (f : ℕ → Option X) where
  -- each has the value that the list has at its place
  pub gathered_all : (d : X) (xs : List X) (from : ℕ) → ((k : ℕ) → k < length xs → f (from + k) ≡ Some (slice_index_or xs k d)) → gathered f from (length xs) ≡ Some xs
  unfolding gathered
  gathered_all d [] from each = refl
  gathered_all d (x ∷ xs) from each =
      let here : f from ≡ Some x = ap f (omega arith) ∙ each 0 (omega arith) in
      let rest = gathered_all d xs (from + 1) (λ k h. ap f (omega arith) ∙ each (suc k) (omega arith)) in
      ap (λ o. both o (gathered f (from + 1) (length xs))) here ∙ ap (both (Some x)) rest

  none_on : (o : Option X) → both o None ≡ None
  none_on None = refl
  none_on (Some x) = refl

  -- one has none
  pub gathered_none : (n from i : ℕ) → i < n → f (from + i) ≡ None → gathered f from n ≡ None
  unfolding gathered
  gathered_none zero from i h lost = absurd (omega arith)
  gathered_none (suc n) from zero h lost = ap (λ o. both o (gathered f (from + 1) n)) (ap f (omega arith) ∙ lost)
  gathered_none (suc n) from (suc i) h lost =
      ap (both (f from)) (gathered_none n (from + 1) i (omega arith) (ap f (omega arith) ∙ lost)) ∙ none_on (f from)

  -- what is gathered is there, value by value
  pub record Each (from n : ℕ) (xs : List X) : Type 0 where
    pub long : length xs ≡ n
    pub has : (d : X) (k : ℕ) → k < n → f (from + k) ≡ Some (slice_index_or xs k d)

  pub gathered_each : (n from : ℕ) (xs : List X) → gathered f from n ≡ Some xs → Each from n xs
  unfolding gathered
  gathered_each zero from xs e = let nil : xs ≡ [] = cc in record { long = ap length nil; has = λ d k h. absurd (omega arith) }
  gathered_each (suc n) from xs e = step (gathered_each n (from + 1)) (f from) refl (gathered f (from + 1) n) refl e
    where
      at : (x d : X) (ys : List X) → f from ≡ Some x → Each (from + 1) n ys → (k : ℕ) → k < suc n → f (from + k) ≡ Some (slice_index_or (x ∷ ys) k d)
      at x d ys here rest zero h = ap f (omega arith) ∙ here
      at x d ys here rest (suc k) h = ap f (omega arith) ∙ rest.has d k (omega arith)

      step : ((ys : List X) → gathered f (from + 1) n ≡ Some ys → Each (from + 1) n ys) →
          (o : Option X) → f from ≡ o → (r : Option (List X)) → gathered f (from + 1) n ≡ r → both o r ≡ Some xs → Each from (suc n) xs
      step more None here r rest is = absurd (true≢false cc)
      step more (Some x) here None rest is = absurd (true≢false cc)
      step more (Some x) here (Some ys) rest is =
          let same : xs ≡ x ∷ ys = cc in
          let tail = more ys rest in
          record {
            long = ap length same ∙ ap suc tail.long;
            has = λ d k h. at x d ys here tail k h ∙ ap (λ zs. Some (slice_index_or zs k d)) (sym same);
          }
