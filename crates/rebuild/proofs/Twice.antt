-- Why a data block is marked as held twice exactly if two root places and positions hold it.
use Rattle.std.proofs.Common.{◌≡◌, ℕ, zero, suc, ◌+◌, ◌*◌, ◌/◌, ◌%◌, ◌<◌, ◌≤◌, Bool, true, false, cond, ◌⊎◌, List, get_or, is_some, Some, None, Option, sym, refl, ap, ◌∙◌, ap₂, inl, inr, ⊎_elim, arith}
use Rattle.std.proofs.lemmas.Bool.{and_parts, and_from, or_cases, cases_eq, cases_lt, cases_order, true≢false}
use Rattle.volume.specs.Rebuilding.{RootBlocks, holds}
use Rattle.volume.specs.Search.{lowest, any, or_else}
use Rattle.volume.proofs.Searching.{lowest_finds, any_true}
use Rattle.rebuild.specs.Laws.{HeldBy, TwiceLaw, LowestLaw}
use Rattle.rebuild.specs.Taking.{address_in}
use Rattle.rebuild.proofs.Held.{held_by, held_again, data_taken}
use Rattle.rebuild.proofs.RootSectors.{low_taken}
use Rattle.rebuild.proofs.Sectors.{is_false}

-- one that passes
any_finds : (f : ℕ → Bool) (n : ℕ) → any f n ≡ true → (b : ℕ) × (f b ≡ true) × (b < n)
unfolding any
any_finds f zero on = absurd (true≢false (sym on))
any_finds f (suc n) on =
    ⊎_elim
    (λ (before : any f n ≡ true). let found = any_finds f n before in (found.0, found.1, omega (arith, found.2)))
    (λ (here : f n ≡ true). (n, here, omega arith))
    (or_cases (any f n) (f n) on)

some_found : (o : Option ℕ) → is_some o ≡ true → (b : ℕ) × (o ≡ Some b)
some_found None on = absurd (true≢false (sym on))
some_found (Some b) on = (b, refl)

-- a search that passes one finds one
lowest_some : (f : ℕ → Bool) (n b : ℕ) → b < n → f b ≡ true → is_some (lowest f n) ≡ true
unfolding lowest
lowest_some f zero b h on = absurd (omega arith)
lowest_some f (suc n) b h on =
    ⊎_elim
    (λ (same : b ≡ n). either (lowest f n) (f n) (inr (ap f (sym same) ∙ on)))
    (λ (ne : b ≡ n → ⊥). either (lowest f n) (f n) (inl (lowest_some f n b (omega arith) on)))
    (cases_eq b n)
  where
    either : (o : Option ℕ) (t : Bool) → (is_some o ≡ true) ⊎ (t ≡ true) → is_some (or_else o (cond t (Some n) None)) ≡ true
    either (Some d) t by = refl
    either None true by = refl
    either None false by = ⊎_elim (λ (e : false ≡ true). e) (λ (e : false ≡ true). e) by

-- what a search does not find does not pass
lowest_all : (f : ℕ → Bool) (n a : ℕ) → lowest f n ≡ None → a < n → f a ≡ false
lowest_all f n a is h = is_false (f a) (λ on. true≢false (sym (lowest_some f n a h on) ∙ ap is_some is))

-- nor does anything below what it finds
lowest_least : (f : ℕ → Bool) (n b a : ℕ) → lowest f n ≡ Some b → a < b → f a ≡ false
unfolding lowest
lowest_least f zero b a is h = absurd (true≢false cc)
lowest_least f (suc n) b a is h = by (lowest f n) refl (f n) is (λ d found below. lowest_least f n d a found below)
  where
    by : (o : Option ℕ) → lowest f n ≡ o → (t : Bool) → or_else o (cond t (Some n) None) ≡ Some b → ((d : ℕ) → lowest f n ≡ Some d → a < d → f a ≡ false) → f a ≡ false
    by (Some d) found t e before = let same : d ≡ b = cc in before d found (omega arith)
    by None found true e before = let same : n ≡ b = cc in lowest_all f n a found (omega arith)
    by None found false e before = absurd (true≢false cc)

-- a place and a position, as one number
module _ (R : RootBlocks) (a r p : ℕ) (few : p < 64) where
  pub as_number : holds R r p a ≡ held_by R a (64 * r + p)
  as_number =
      let place : (64 * r + p) / 64 ≡ r = omega arith in
      let position : (64 * r + p) % 64 ≡ p = omega arith in
      sym (ap₂ (λ b q. holds R b q a) place position)

-- one that holds it again, and the first
two : (R : RootBlocks) (n a k : ℕ) → k < 64 * n → held_again R a k ≡ true → (r : ℕ) × ((p : ℕ) × ((q : ℕ) × ((t : ℕ) × HeldBy R n a r p q t)))
two R n a k h on =
    let parts = and_parts (held_by R a k) (is_some (lowest (held_by R a) k)) on in
    let found = some_found (lowest (held_by R a) k) parts.1 in
    let b = found.0 in
    let finds = lowest_finds (held_by R a) k b found.1 in
    let below : b < k = finds.1 in (
      b / 64,
      (
        b % 64,
        (
          k / 64,
          (
            k % 64,
            record {
              first = finds.0;
              second = parts.0;
              within = (omega arith, omega arith, omega arith, omega arith);
              apart = λ e. let place = e.0 in let position = e.1 in omega arith;
            },
          ),
        ),
      ),
    )

-- the later of two holds it again
later : (R : RootBlocks) (n a j k : ℕ) → j < k → k < 64 * n → held_by R a j ≡ true → held_by R a k ≡ true → any (held_again R a) (64 * n) ≡ true
later R n a j k below h one other =
    any_true (held_again R a) (64 * n) k h
    (and_from (held_by R a k) (is_some (lowest (held_by R a) k)) other (lowest_some (held_by R a) k j below one))

either_later : (R : RootBlocks) (n a r p q t : ℕ) → HeldBy R n a r p q t → any (held_again R a) (64 * n) ≡ true
either_later R n a r p q t held =
    let bounds = held.within in
    let rh : r < n = bounds.0 in
    let ph : p < 64 = bounds.1 in
    let qh : q < n = bounds.2 in
    let th : t < 64 = bounds.3 in
    let one = sym (as_number R a r p ph) ∙ held.first in
    let other = sym (as_number R a q t th) ∙ held.second in
    ⊎_elim
    (λ (same : 64 * r + p ≡ 64 * q + t). absurd (held.apart (omega arith, omega arith)))
    (⊎_elim
    (λ (below : 64 * r + p < 64 * q + t). later R n a (64 * r + p) (64 * q + t) below (omega arith) one other)
    (λ (above : 64 * q + t < 64 * r + p). later R n a (64 * q + t) (64 * r + p) above (omega arith) other one))
    (cases_order (64 * r + p) (64 * q + t))

pub twice_law : TwiceLaw
twice_law = record {
  marked = λ R cylinders c s sh full on.
      let n = 32 * cylinders in
      ⊎_elim
      (λ (low : s < 5). absurd (true≢false (sym on ∙ (low_taken c s sh low R n).1)))
      (λ (high : 5 ≤ s).
      let found = any_finds (held_again R (32 * c + s)) (64 * n) (sym (data_taken c s sh high R n full n (omega arith)).1 ∙ on) in
      two R n (32 * c + s) found.0 found.2 found.1)
      (cases_lt s 5);
  found = λ R cylinders c s sh high full r p q t held.
      (data_taken c s sh high R (32 * cylinders) full (32 * cylinders) (omega arith)).1 ∙ either_later R (32 * cylinders) (32 * c + s) r p q t held;
}

pub lowest_law : LowestLaw
lowest_law = record {
  some = λ c a ts is. named c a ts (lowest (λ s. get_or ts s false) 32) refl is;
  none = λ c ts is s h. lowest_all (λ k. get_or ts k false) 32 s (unnamed c (lowest (λ k. get_or ts k false) 32) is) h;
}
  where
    named : (c a : ℕ) (ts : List Bool) (o : Option ℕ) → lowest (λ s. get_or ts s false) 32 ≡ o → address_in c o ≡ Some a →
        (s : ℕ) × (s < 32) × (a ≡ 32 * c + s) × (get_or ts s false ≡ true) × ((k : ℕ) → k < s → get_or ts k false ≡ false)
    named c a ts None found is = absurd (true≢false cc)
    named c a ts (Some s) found is =
        let finds = lowest_finds (λ k. get_or ts k false) 32 s found in
        let address : a ≡ 32 * c + s = cc in
        (s, finds.1, address, finds.0, λ k h. lowest_least (λ j. get_or ts j false) 32 s k found h)

    unnamed : (c : ℕ) (o : Option ℕ) → address_in c o ≡ None → o ≡ None
    unnamed c None is = refl
    unnamed c (Some s) is = absurd (true≢false cc)
