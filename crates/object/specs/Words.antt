-- A position's 512 bytes as 256 words of two bytes, low byte first.
--   le2       a word as two bytes
--   word_at   word i of a block
--   words_of  the 256 words of a block
--   bytes_of  the bytes of some words
--   replaced  words with a run of new ones in the place of as many
--   WordsReturn  the two round trips
use Rattle.std.specs.Prelude.{◌≡◌, ℕ, ◌+◌, ◌*◌, ◌/◌, ◌%◌, ◌^◌, ◌<◌, List, [], ◌∷◌, ◌++◌, map, length, take, drop, slice_index}
use Rattle.std.specs.List.{range_with_len}

abbrev pub le2 : ℕ → List ℕ
le2 w = w % 256 ∷ w / 256 % 256 ∷ []

abbrev pub word_at : List ℕ → ℕ → ℕ
word_at block i = slice_index block (2 * i) + slice_index block (2 * i + 1) * 256

unfoldable pub words_of : List ℕ → List ℕ
words_of block = map (word_at block) (range_with_len 0 256)

abbrev pub bytes_of : List ℕ → List ℕ
bytes_of [] = []
bytes_of (w ∷ words) = w % 256 ∷ w / 256 % 256 ∷ bytes_of words

abbrev pub replaced : List ℕ → ℕ → List ℕ → List ℕ
replaced words first new = take first words ++ (new ++ drop (first + length new) words)

-- a block that is read as words and written again is the same, and so are words
pub record WordsReturn : Type 0 where
  pub bytes : (block : List ℕ) → length block ≡ 512 → ((i : ℕ) → slice_index block i < 256) → bytes_of (words_of block) ≡ block
  pub words : (words : List ℕ) → length words ≡ 256 → ((i : ℕ) → slice_index words i < 2 ^ 16) → words_of (bytes_of words) ≡ words
