-- The blocks that a staged write makes.
--   staged         the words of a position with a run of new ones in the place of as many
--   staged_block   the bytes of those words, if the run stays inside the position
--   StagedWords    the words of that block are the staged ones, if each word fits two bytes
use Rattle.std.specs.Prelude.{◌≡◌, ℕ, ◌+◌, ◌^◌, ◌<◌, cond, List, length, Some, None, Option, nat_le, slice_index}
use Rattle.object.specs.Words.{words_of, bytes_of, replaced}

abbrev pub staged : List ℕ → ℕ → List ℕ → List ℕ
staged words first new = replaced words first new

abbrev pub staged_block : List ℕ → ℕ → List ℕ → Option (List ℕ)
staged_block words first new = cond (nat_le (first + length new) 256) (Some (bytes_of (staged words first new))) None

abbrev pub StagedWords : Type 0
StagedWords =
    (words : List ℕ) (first : ℕ) (new block : List ℕ) → length words ≡ 256 → ((i : ℕ) → slice_index words i < 2 ^ 16) → ((i : ℕ) → slice_index new i < 2 ^ 16) →
    staged_block words first new ≡ Some block → words_of block ≡ staged words first new
