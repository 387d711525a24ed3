-- What `array::from_fn` makes by a closure that its calls leave as it is.
use Rattle.std.proofs.Common.{◌≡◌, ℕ, zero, suc, ◌+◌, ◌<◌, List, map, get_or, sym, ap, ◌∙◌, subst, arith}
use denote.Param.Members.{Mut, Called}
use Rattle.std.proofs.lemmas.List.FromFn.{fill_by_all}
use Rattle.std.specs.Array.{IsFromFnResultFrom, IsFromFnResult}
use Rattle.std.specs.List.{range_with_len}

module _ {F B : Type 0} (g : Mut F (ℕ × Unit {0}) B) (h : ℕ → B) (f : F)
    (call : (i : ℕ) (y : B) (q : F) → Called g f (i, tt) y q → (y ≡ h i) × (q ≡ f)) where
  each_made : (ys : List B) (n i : ℕ) → IsFromFnResultFrom g f ys i n → (k : ℕ) (d : B) → k < n → get_or ys (i + k) d ≡ h (i + k)
  each_made ys zero i made k d l = absurd (omega arith)
  each_made ys (suc n) i made zero d l =
      let here : i + 0 ≡ i = omega arith in
      ap (λ j. get_or ys j d) here ∙ made.2.1 d ∙ (call i made.1 made.0 made.3).0 ∙ ap h (sym here)
  each_made ys (suc n) i made (suc k) d l =
      let there : i + suc k ≡ i + 1 + k = omega arith in
      let rest = subst (λ p. IsFromFnResultFrom g p ys (i + 1) n) (call i made.1 made.0 made.3).1 made.4 in
      ap (λ j. get_or ys j d) there ∙ each_made ys n (i + 1) rest k d (omega arith) ∙ ap h (sym there)

  pub from_fn_made : (ys : List B) (n : ℕ) (d : B) → IsFromFnResult g f ys n → ys ≡ map h (range_with_len 0 n)
  from_fn_made ys n d made =
      fill_by_all h ys n d made.long
      (λ k l. let start : 0 + k ≡ k = omega arith in ap (λ j. get_or ys j d) (sym start) ∙ each_made ys n 0 made.each k d l ∙ ap h start)
