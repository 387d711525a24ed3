-- Words of a block: one word put, and the round trips.
use Rattle.std.proofs.Common.{◌≡◌, ℕ, zero, suc, ◌+◌, ◌-◌, ◌*◌, ◌/◌, ◌%◌, ◌^◌, ◌<◌, ◌≤◌, List, [], ◌∷◌, ◌++◌, length, get_or, take, sym, refl, ap, ◌∙◌, ap₂, ⊎_elim, arith}
use Rattle.std.proofs.lemmas.List.FromFn.{length-map-range_with_len, get_or-map-range_with_len}
use Rattle.std.proofs.lemmas.List.{length-take-le, ext_get_or, take_more}
use Rattle.std.proofs.lemmas.Bool.{cases_eq, cases_lt}
use Rattle.map.specs.Bytes.{placed}
use Rattle.object.specs.Words.{le2, word_at, words_of, bytes_of, WordsReturn}
use Rattle.object.proofs.Placing.{placed_length, placed_below, placed_inside, placed_above, placed_on}

pub words_long : (block : List ℕ) → length (words_of block) ≡ 256
unfolding words_of
words_long block = length-map-range_with_len (word_at block) 0 256

pub words_at : (block : List ℕ) (i : ℕ) → i < 256 → get_or (words_of block) i 0 ≡ word_at block i
unfolding words_of
words_at block i h = get_or-map-range_with_len (word_at block) 0 256 i i 0 h (omega arith)

pub word_of_le2 : (w : ℕ) → w < 2 ^ 16 → w % 256 + w / 256 % 256 * 256 ≡ w
word_of_le2 w h = omega arith

pub bytes_long : (words : List ℕ) → length (bytes_of words) ≡ 2 * length words
bytes_long [] = omega arith
bytes_long (w ∷ words) = omega (arith, bytes_long words)

pub low_byte : (words : List ℕ) (j : ℕ) → j < length words → get_or (bytes_of words) (2 * j) 0 ≡ get_or words j 0 % 256
low_byte [] j h = absurd (omega arith)
low_byte (w ∷ words) zero h = refl
low_byte (w ∷ words) (suc j) h =
    let n : 2 * suc j ≡ suc (suc (2 * j)) = omega arith in
    ap (λ k. get_or (bytes_of (w ∷ words)) k 0) n ∙ low_byte words j (omega arith)

pub high_byte : (words : List ℕ) (j : ℕ) → j < length words → get_or (bytes_of words) (2 * j + 1) 0 ≡ get_or words j 0 / 256 % 256
high_byte [] j h = absurd (omega arith)
high_byte (w ∷ words) zero h = refl
high_byte (w ∷ words) (suc j) h =
    let n : 2 * suc j + 1 ≡ suc (suc (2 * j + 1)) = omega arith in
    ap (λ k. get_or (bytes_of (w ∷ words)) k 0) n ∙ high_byte words j (omega arith)

bytes_append : (p q : List ℕ) → bytes_of (p ++ q) ≡ bytes_of p ++ bytes_of q
bytes_append [] q = refl
bytes_append (w ∷ p) q = ap (λ rest. w % 256 ∷ w / 256 % 256 ∷ rest) (bytes_append p q)

-- words put into a block stand in the place of as many
module _ (block new : List ℕ) (first : ℕ) (long : length block ≡ 512) (few : first + length new ≤ 256) (small : (i : ℕ) → get_or new i 0 < 2 ^ 16) where
  put : List ℕ
  put = placed (2 * first) (bytes_of new) block

  room : 2 * first + length (bytes_of new) ≤ length block
  room = omega (arith, bytes_long new)

  words_room : first + length new ≤ length (words_of block)
  words_room = omega (arith, words_long block)

  word_inside : (k : ℕ) → k < length new → word_at put (first + k) ≡ get_or new k 0
  unfolding put
  word_inside k h =
      let low : get_or put (2 * (first + k)) 0 ≡ get_or new k 0 % 256 =
      ap (λ n. get_or put n 0) (omega arith) ∙ placed_inside (2 * first) (bytes_of new) block room (2 * k) (omega (arith, bytes_long new)) ∙ low_byte new k h in
      let high : get_or put (2 * (first + k) + 1) 0 ≡ get_or new k 0 / 256 % 256 =
      ap (λ n. get_or put n 0) (omega arith) ∙ placed_inside (2 * first) (bytes_of new) block room (2 * k + 1) (omega (arith, bytes_long new)) ∙ high_byte new k h in
      ap₂ (λ x y. x + y * 256) low high ∙ word_of_le2 (get_or new k 0) (small k)

  word_put : (j : ℕ) → j < 256 → get_or (words_of put) j 0 ≡ get_or (placed first new (words_of block)) j 0
  unfolding put
  word_put j below =
      words_at put j below
      ∙ ⊎_elim
      (λ (l : j < first).
      ap₂ (λ x y. x + y * 256) (placed_below (2 * first) (bytes_of new) block room (2 * j) (omega arith)) (placed_below (2 * first) (bytes_of new) block room (2 * j + 1) (omega arith))
      ∙ sym (placed_below first new (words_of block) words_room j l ∙ words_at block j below))
      (λ (g : first ≤ j).
      ⊎_elim
      (λ (l : j < first + length new).
      let within : j - first < length new = omega arith in
      let same : j ≡ first + (j - first) = omega arith in
      ap (word_at put) same ∙ word_inside (j - first) within
      ∙ sym (ap (λ n. get_or (placed first new (words_of block)) n 0) same ∙ placed_inside first new (words_of block) words_room (j - first) within))
      (λ (past : first + length new ≤ j).
      ap₂ (λ x y. x + y * 256) (placed_above (2 * first) (bytes_of new) block room (2 * j) (omega (arith, bytes_long new)))
      (placed_above (2 * first) (bytes_of new) block room (2 * j + 1) (omega (arith, bytes_long new)))
      ∙ sym (placed_above first new (words_of block) words_room j past ∙ words_at block j below))
      (cases_lt j (first + length new)))
      (cases_lt j first)

  pub words_put : words_of (placed (2 * first) (bytes_of new) block) ≡ placed first new (words_of block)
  unfolding put
  words_put =
      ext_get_or 0 (words_of put) (placed first new (words_of block))
      (words_long put ∙ sym (placed_length first new (words_of block) words_room ∙ words_long block))
      (λ j h. word_put j (omega (arith, words_long put)))

low_of : (lo hi : ℕ) → lo < 256 → (lo + hi * 256) % 256 ≡ lo
low_of lo hi h = omega arith

high_of : (lo hi : ℕ) → lo < 256 → hi < 256 → (lo + hi * 256) / 256 % 256 ≡ hi
high_of lo hi h k = omega arith

-- a block's bytes come back
module _ (block : List ℕ) (long : length block ≡ 512) (small : (i : ℕ) → get_or block i 0 < 256) where
  even_back : (j : ℕ) → j < 256 → get_or (bytes_of (words_of block)) (2 * j) 0 ≡ get_or block (2 * j) 0
  even_back j h =
      low_byte (words_of block) j (omega (arith, words_long block)) ∙ ap (λ w. w % 256) (words_at block j h)
      ∙ low_of (get_or block (2 * j) 0) (get_or block (2 * j + 1) 0) (small (2 * j))

  odd_back : (j : ℕ) → j < 256 → get_or (bytes_of (words_of block)) (2 * j + 1) 0 ≡ get_or block (2 * j + 1) 0
  odd_back j h =
      high_byte (words_of block) j (omega (arith, words_long block)) ∙ ap (λ w. w / 256 % 256) (words_at block j h)
      ∙ high_of (get_or block (2 * j) 0) (get_or block (2 * j + 1) 0) (small (2 * j)) (small (2 * j + 1))

  pub block_back : bytes_of (words_of block) ≡ block
  block_back = ext_get_or 0 (bytes_of (words_of block)) block sizes each
    where
      sizes : length (bytes_of (words_of block)) ≡ length block
      sizes = omega (arith, bytes_long (words_of block), words_long block)

      each : (k : ℕ) → k < length (bytes_of (words_of block)) → get_or (bytes_of (words_of block)) k 0 ≡ get_or block k 0
      each k h =
          let below : k / 2 < 256 = omega (arith, sizes) in
          ⊎_elim
          (λ (e : k ≡ 2 * (k / 2)). ap (λ n. get_or (bytes_of (words_of block)) n 0) e ∙ even_back (k / 2) below ∙ ap (λ n. get_or block n 0) (sym e))
          (λ ne.
          let e : k ≡ 2 * (k / 2) + 1 = omega arith in
          ap (λ n. get_or (bytes_of (words_of block)) n 0) e ∙ odd_back (k / 2) below ∙ ap (λ n. get_or block n 0) (sym e))
          (cases_eq k (2 * (k / 2)))

pub words_back : (words : List ℕ) → length words ≡ 256 → ((i : ℕ) → get_or words i 0 < 2 ^ 16) → words_of (bytes_of words) ≡ words
words_back words long small =
    ext_get_or 0 (words_of (bytes_of words)) words (words_long (bytes_of words) ∙ sym long)
    (λ j h.
    let few : j < 256 = omega (arith, words_long (bytes_of words)) in
    let within : j < length words = omega arith in
    words_at (bytes_of words) j few ∙ ap₂ (λ x y. x + y * 256) (low_byte words j within) (high_byte words j within) ∙ word_of_le2 (get_or words j 0) (small j))

pub words_return : WordsReturn
words_return = record { bytes = block_back; words = words_back }

-- one word more behind those that were put at `at`
pub words_more : (words block : List ℕ) (at i : ℕ) → i < length words → at + 2 * i + 2 ≤ length block →
    placed (at + 2 * i) (le2 (get_or words i 0)) (placed at (bytes_of (take i words)) block) ≡ placed at (bytes_of (take (i + 1) words)) block
words_more words block at i within room =
    let front = bytes_of (take i words) in
    let w = get_or words i 0 in
    let long : length front ≡ 2 * i = bytes_long (take i words) ∙ ap (λ n. 2 * n) (length-take-le i words (omega arith)) in
    ap (λ n. placed (at + n) (le2 w) (placed at front block)) (sym long)
    ∙ placed_on at front block (omega arith) (le2 w)
    ∙ ap (λ xs. placed at xs block) (sym (bytes_append (take i words) (w ∷ [])) ∙ ap bytes_of (sym (take_more words i 0 within)))
