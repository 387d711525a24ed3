-- The first of several answers.
use Rattle.std.proofs.Common.{◌≡◌, ℕ, zero, suc, ◌+◌, ◌<◌, ◌≤◌, Bool, true, false, List, is_some, Some, None, Ok, Option, Result, sym, refl, ap, ◌∙◌, ap₂, ⊎_elim, add-one, arith}
use Rattle.std.proofs.lemmas.Bool.{cases_eq, true≢false, false≢true}
use Rattle.allocation.specs.Choosing.{first_in, first_of, tried, found_at}
use Rattle.device.specs.Blocks.{Block}
use Rattle.map.specs.declared.entry.Entry.{Entry}
use Rattle.device.specs.declared.power.PowerCut.{PowerCut}
use Rattle.volume.specs.Search.{or_else}
use Rattle.volume.specs.Volume.{cylinders_of, map_at}

module _ (f : ℕ → Option ℕ) where
  pub first_none : first_of f 0 ≡ None
  unfolding first_of
  first_none = refl

  pub first_more : (k : ℕ) → first_of f k ≡ None → f k ≡ None → first_of f (k + 1) ≡ None
  unfolding first_of
  first_more k below here = rw add-one (ap₂ or_else below here)

  -- the first that is one
  pub first_found : (n k a : ℕ) → k < n → first_of f k ≡ None → f k ≡ Some a → first_of f n ≡ Some a
  unfolding first_of
  first_found zero k a h below here = absurd (omega arith)
  first_found (suc n) k a h below here =
      ⊎_elim
      (λ (e : k ≡ n). ap₂ or_else (ap (first_of f) (sym e) ∙ below) (ap f (sym e) ∙ here))
      (λ ne. ap (λ o. or_else o (f n)) (first_found n k a (omega arith) below here))
      (cases_eq k n)

  pub first_answer : (n k : ℕ) (o : Option ℕ) → k < n → first_of f k ≡ None → f k ≡ o → is_some o ≡ true → first_of f n ≡ o
  first_answer n k None h below here some = absurd (false≢true some)
  first_answer n k (Some a) h below here some = first_found n k a h below here

pub no_answer : (o : Option ℕ) → is_some o ≡ false → o ≡ None
no_answer None none = refl
no_answer (Some a) none = absurd (true≢false none)

-- the answer of the cylinder that is tried after k others
pub same_found : (fits : ℕ → Entry → Bool) (blocks : List Block) (start k c n : ℕ) (found : Option ℕ) → n ≡ cylinders_of blocks → c ≡ tried n start k →
    ◌≡◌ {A = Result (Option ℕ) PowerCut} (Ok found) (Ok (first_in fits c (map_at blocks c))) → found ≡ found_at fits start blocks k
same_found fits blocks start k c n found all here is =
    let answer : found ≡ first_in fits c (map_at blocks c) = cc in
    answer ∙ ap (λ d. first_in fits d (map_at blocks d)) (here ∙ ap (λ m. tried m start k) all)
