-- What a search finds.
use Rattle.std.proofs.Common.{◌≡◌, ℕ, zero, suc, ◌<◌, Bool, true, false, cond, ◌||◌, MatchOption, Some, None, Option, sym, refl, ap, ◌∙◌, ap₂, ⊎_elim, arith}
use Rattle.std.proofs.lemmas.Bool.{cases_eq, cases_Bool, or_left, or_right, or_from, true≢false}
use Rattle.volume.specs.Search.{lowest, any, or_else}

-- equal tests below the bound give equal finds
pub lowest_below : (f g : ℕ → Bool) (n : ℕ) → ((a : ℕ) → a < n → f a ≡ g a) → lowest f n ≡ lowest g n
unfolding lowest
lowest_below f g zero e = refl
lowest_below f g (suc n) e = ap₂ (λ o t. or_else o (cond t (Some n) None)) (lowest_below f g n (λ a h. e a (omega arith))) (e n (omega arith))

pub lowest_none : (f : ℕ → Bool) (n : ℕ) → ((a : ℕ) → a < n → f a ≡ false) → lowest f n ≡ None
unfolding lowest
lowest_none f zero e = refl
lowest_none f (suc n) e = ap₂ (λ o t. or_else o (cond t (Some n) None)) (lowest_none f n (λ a h. e a (omega arith))) (e n (omega arith))

-- one passes, and no other below it
pub lowest_first : (f : ℕ → Bool) (n b : ℕ) → b < n → f b ≡ true → ((a : ℕ) → a < b → f a ≡ false) → lowest f n ≡ Some b
unfolding lowest
lowest_first f zero b h t e = absurd (omega arith)
lowest_first f (suc n) b h t e =
    ⊎_elim
    (λ (same : b ≡ n).
    ap₂ (λ o u. or_else o (cond u (Some n) None)) (lowest_none f n (λ a k. e a (omega arith))) (ap f (sym same) ∙ t) ∙ ap Some (sym same))
    (λ ne. ap (λ o. or_else o (cond (f n) (Some n) None)) (lowest_first f n b (omega arith) t e))
    (cases_eq b n)

-- what is found passes, below the bound
pub lowest_finds : (f : ℕ → Bool) (n b : ℕ) → lowest f n ≡ Some b → (f b ≡ true) × (b < n)
unfolding lowest
lowest_finds f zero b is = absurd (true≢false cc)
lowest_finds f (suc n) b is = go (lowest f n) refl (f n) refl is (lowest_finds f n)
  where
    go : (o : Option ℕ) → lowest f n ≡ o → (t : Bool) → f n ≡ t → or_else o (cond t (Some n) None) ≡ Some b →
        ((d : ℕ) → lowest f n ≡ Some d → (f d ≡ true) × (d < n)) → (f b ≡ true) × (b < suc n)
    go (Some d) found t test e below =
        let same : d ≡ b = cc in
        let has = below d found in
        (ap f (sym same) ∙ has.0, omega (arith, has.1))
    go None found true test e below = let same : n ≡ b = cc in (ap f (sym same) ∙ test, omega arith)
    go None found false test e below = absurd (true≢false cc)

-- where none is found, none passes
pub lowest_misses : (f : ℕ → Bool) (n a : ℕ) → lowest f n ≡ None → a < n → f a ≡ true → ⊥
unfolding lowest
lowest_misses f zero a is h t = omega arith
lowest_misses f (suc n) a is h t = go (lowest f n) refl (f n) refl is (lowest_misses f n)
  where
    go : (o : Option ℕ) → lowest f n ≡ o → (u : Bool) → f n ≡ u → or_else o (cond u (Some n) None) ≡ None → ((d : ℕ) → lowest f n ≡ None → d < n → f d ≡ true → ⊥) → ⊥
    go (Some d) found u test e below = true≢false cc
    go None found true test e below = true≢false cc
    go None found false test e below =
        ⊎_elim
        (λ (same : a ≡ n). let no : true ≡ false = sym t ∙ ap f same ∙ test in true≢false cc)
        (λ ne. below a found (omega arith) t)
        (cases_eq a n)

-- the only one that passes is found
pub lowest_only : (f : ℕ → Bool) (n b : ℕ) → b < n → f b ≡ true → ((a : ℕ) → a < n → f a ≡ true → a ≡ b) → lowest f n ≡ Some b
lowest_only f n b h t only =
    lowest_first f n b h t
    (λ a k. ⊎_elim (λ (e : f a ≡ true). absurd (let same = only a (omega arith) e in omega arith)) (λ e. e) (cases_Bool (f a)))

pub any_true : (f : ℕ → Bool) (n b : ℕ) → b < n → f b ≡ true → any f n ≡ true
unfolding any
any_true f zero b h t = absurd (omega arith)
any_true f (suc n) b h t =
    ⊎_elim
    (λ (same : b ≡ n). or_right (any f n) (f n) (ap f (sym same) ∙ t))
    (λ ne. or_left (any f n) (f n) (any_true f n b (omega arith) t))
    (cases_eq b n)

pub any_false : (f : ℕ → Bool) (n : ℕ) → ((a : ℕ) → a < n → f a ≡ false) → any f n ≡ false
unfolding any
any_false f zero e = refl
any_false f (suc n) e = or_from (any f n) (f n) (any_false f n (λ a h. e a (omega arith))) (e n (omega arith))

pub any_same : (f g : ℕ → Bool) (n : ℕ) → ((a : ℕ) → f a ≡ g a) → any f n ≡ any g n
unfolding any
any_same f g zero e = refl
any_same f g (suc n) e = ap₂ ◌||◌ (any_same f g n e) (e n)

-- what a search that stops at the first answers
abbrev pub IsFirst : (ℕ → Bool) → ℕ → Option ℕ → Type 0
IsFirst f n r = MatchOption r ((k : ℕ) → k < n → f k ≡ false) (λ i. (i < n) × (f i ≡ true) × ((k : ℕ) → k < i → f k ≡ false))

pub first_is_lowest : (f : ℕ → Bool) (n : ℕ) (r : Option ℕ) → IsFirst f n r → r ≡ lowest f n
first_is_lowest f n None none = sym (lowest_none f n none)
first_is_lowest f n (Some i) is = sym (lowest_first f n i is.0 is.1 is.2)
