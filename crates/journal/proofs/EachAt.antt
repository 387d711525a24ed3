-- Changing the entries of a map one after another.
use Rattle.std.proofs.Common.{◌≡◌, ℕ, zero, suc, ◌+◌, ◌<◌, ◌≤◌, Bool, true, false, ◌||◌, List, [], ◌∷◌, ◌++◌, length, get_or, take, set, sym, refl, ap, ◌∙◌, ap₂, add-one, arith}
use Rattle.std.proofs.lemmas.List.{take_more, length-take-le}
use Rattle.map.specs.declared.entry.Entry.{Entry}
use Rattle.map.specs.declared.entry.Entry.TheVariants.{Map}
use Rattle.journal.specs.Rules.{each_at, any_at}

-- the first i entries are changed
unfoldable pub partly : (ℕ → Entry → Entry) → ℕ → ℕ → List Entry → List Entry
partly f a zero es = es
partly f a (suc i) [] = []
partly f a (suc i) (e ∷ es) = f a e ∷ partly f (a + 1) i es

module _ (f : ℕ → Entry → Entry) where
  -- the next one is still as it was
  pub partly_next : (a i : ℕ) (es : List Entry) → get_or (partly f a i es) i Map ≡ get_or es i Map
  unfolding partly
  partly_next a zero es = refl
  partly_next a (suc i) [] = refl
  partly_next a (suc i) (e ∷ es) = partly_next (a + 1) i es

  pub partly_more : (a i : ℕ) (es : List Entry) → set (partly f a i es) i (f (a + i) (get_or es i Map)) ≡ partly f a (suc i) es
  unfolding partly
  partly_more a zero [] = refl
  partly_more a zero (e ∷ es) = ap (λ b. f b e ∷ es) (omega arith)
  partly_more a (suc i) [] = refl
  partly_more a (suc i) (e ∷ es) =
      ap (λ b. f a e ∷ set (partly f (a + 1) i es) i (f b (get_or es i Map))) (omega arith) ∙ ap (λ rest. f a e ∷ rest) (partly_more (a + 1) i es)

  -- the next entry is changed
  pub partly_set : (a i : ℕ) (now es : List Entry) (e : Entry) → now ≡ partly f a i es → e ≡ f (a + i) (get_or es i Map) → set now i e ≡ partly f a (i + 1) es
  partly_set a i now es e so_far is = ap₂ (λ xs x. set xs i x) so_far is ∙ partly_more a i es ∙ ap (λ n. partly f a n es) (sym (add-one i))

  pub partly_all : (a i : ℕ) (es : List Entry) → length es ≤ i → partly f a i es ≡ each_at f a es
  unfolding partly each_at
  partly_all a zero [] h = refl
  partly_all a zero (e ∷ es) h = absurd (omega arith)
  partly_all a (suc i) [] h = refl
  partly_all a (suc i) (e ∷ es) h = ap (λ rest. f a e ∷ rest) (partly_all (a + 1) i es (omega arith))

  pub partly_length : (a i : ℕ) (es : List Entry) → length (partly f a i es) ≡ length es
  unfolding partly
  partly_length a zero es = refl
  partly_length a (suc i) [] = refl
  partly_length a (suc i) (e ∷ es) = ap suc (partly_length (a + 1) i es)

  pub each_length : (a : ℕ) (es : List Entry) → length (each_at f a es) ≡ length es
  each_length a es = ap length (sym (partly_all a (length es) es (omega arith))) ∙ partly_length a (length es) es

  -- entry k of the changed list
  pub each_entry : (a k : ℕ) (es : List Entry) → k < length es → get_or (each_at f a es) k Map ≡ f (a + k) (get_or es k Map)
  unfolding each_at
  each_entry a k [] h = absurd (omega arith)
  each_entry a zero (e ∷ es) h = ap (λ b. f b e) (omega arith)
  each_entry a (suc k) (e ∷ es) h = each_entry (a + 1) k es (omega arith) ∙ ap (λ b. f b (get_or es k Map)) (omega arith)

module _ (t : ℕ → Entry → Bool) where
  or_none : (x : Bool) → (x || false) ≡ x
  or_none true = refl
  or_none false = refl

  or_assoc : (x y z : Bool) → ((x || y) || z) ≡ (x || (y || z))
  or_assoc true y z = refl
  or_assoc false y z = refl

  any_push : (a : ℕ) (es : List Entry) (e : Entry) → any_at t a (es ++ e ∷ []) ≡ (any_at t a es || t (a + length es) e)
  unfolding any_at
  any_push a [] e = or_none (t a e) ∙ ap (λ b. t b e) (omega arith)
  any_push a (x ∷ es) e =
      ap (λ r. t a x || r) (any_push (a + 1) es e ∙ ap (λ b. any_at t (a + 1) es || t b e) (omega arith)) ∙ sym (or_assoc (t a x) (any_at t (a + 1) es) (t (a + length (x ∷ es)) e))

  pub any_more : (a i : ℕ) (es : List Entry) → i < length es → any_at t a (take (i + 1) es) ≡ (any_at t a (take i es) || t (a + i) (get_or es i Map))
  any_more a i es h =
      ap (any_at t a) (take_more es i Map h) ∙ any_push a (take i es) (get_or es i Map)
      ∙ ap (λ n. any_at t a (take i es) || t (a + n) (get_or es i Map)) (length-take-le i es (omega arith))

  -- with one entry more
  pub any_yes : (a i : ℕ) (es : List Entry) → i < length es → t (a + i) (get_or es i Map) ≡ true → any_at t a (take (i + 1) es) ≡ true
  any_yes a i es h so = any_more a i es h ∙ ap (λ x. any_at t a (take i es) || x) so ∙ or_true (any_at t a (take i es))
    where
      or_true : (x : Bool) → (x || true) ≡ true
      or_true true = refl
      or_true false = refl

  pub any_no : (a i : ℕ) (es : List Entry) → i < length es → t (a + i) (get_or es i Map) ≡ false → any_at t a (take (i + 1) es) ≡ any_at t a (take i es)
  any_no a i es h none = any_more a i es h ∙ ap (λ x. any_at t a (take i es) || x) none ∙ or_none (any_at t a (take i es))
