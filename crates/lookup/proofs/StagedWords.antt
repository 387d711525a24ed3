-- The words of a staged block.
use Rattle.std.proofs.Common.{◌≡◌, ℕ, ◌+◌, ◌-◌, ◌^◌, ◌<◌, ◌≤◌, Bool, true, false, cond, leb, List, ◌++◌, length, get_or, take, drop, Some, None, refl, ap, ◌∙◌, ⊎_elim, arith}
use Rattle.std.proofs.lemmas.List.{length-append, length-take, length-drop, get_or_append_left, get_or-append_right, get_or-take, get_or-drop, get_or_past}
use Rattle.std.proofs.lemmas.Bool.{cases_lt, leb-true, true≢false}
use Rattle.object.specs.Words.{words_of, bytes_of, WordsReturn}
use Rattle.lookup.specs.Staging.{staged, StagedWords}

-- each number of a list is below a bound
abbrev Small : ℕ → List ℕ → Type 0
Small b xs = (i : ℕ) → get_or xs i 0 < b

small_append : (b : ℕ) (xs ys : List ℕ) → Small b xs → Small b ys → Small b (xs ++ ys)
small_append b xs ys left right i =
    ⊎_elim
    (λ (h : i < length xs). rw (get_or_append_left xs ys 0 i h) (left i))
    (λ (h : length xs ≤ i). rw (get_or-append_right xs ys (length xs) i 0 refl h) (right (i - length xs)))
    (cases_lt i (length xs))

small_take : (b n : ℕ) (xs : List ℕ) → 0 < b → Small b xs → Small b (take n xs)
small_take b n xs some small i =
    ⊎_elim
    (λ (h : i < n). rw (get_or-take n xs i 0 h) (small i))
    (λ (h : n ≤ i). let past : length (take n xs) ≤ i = simp length-take (omega arith) in rw (get_or_past (take n xs) i 0 past) some)
    (cases_lt i n)

small_drop : (b n : ℕ) (xs : List ℕ) → Small b xs → Small b (drop n xs)
small_drop b n xs small i = rw (get_or-drop n xs i 0) (small (n + i))

pub staged_long : (words : List ℕ) (first : ℕ) (new : List ℕ) → first + length new ≤ length words → length (staged words first new) ≡ length words
staged_long words first new within = simp (length-append, length-take, length-drop) (omega arith)

pub staged_return : WordsReturn → StagedWords
staged_return back words first new block long small small_new is = go (leb (first + length new) 256) refl is
  where
    go : (fits : Bool) → leb (first + length new) 256 ≡ fits → cond fits (Some (bytes_of (staged words first new))) None ≡ Some block → words_of block ≡ staged words first new
    go true fits e =
        let within = leb-true (first + length new) 256 fits in
        let same : block ≡ bytes_of (staged words first new) = cc in
        let b = 2 ^ 16 in
        let each : Small b (staged words first new) =
        small_append b (take first words) (new ++ drop (first + length new) words) (small_take b first words (omega arith) small)
        (small_append b new (drop (first + length new) words) small_new (small_drop b (first + length new) words small)) in
        ap words_of same ∙ back.words (staged words first new) (staged_long words first new (omega arith) ∙ long) each
    go false fits e = absurd (true≢false cc)
