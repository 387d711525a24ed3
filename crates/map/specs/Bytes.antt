-- Numbers as bytes, low byte first, and parts of a block.
--   le4, number4   a 32-bit number as four bytes, and back
--   piece          n bytes from a place on
--   placed         a block with these bytes in the place of as many from a place on
use Rattle.std.specs.Prelude.{ℕ, ◌+◌, ◌*◌, ◌/◌, ◌%◌, List, [], ◌∷◌, ◌++◌, length, take, drop, slice_index}

abbrev pub le4 : ℕ → List ℕ
le4 n = n % 256 ∷ n / 256 % 256 ∷ n / 65536 % 256 ∷ n / 16777216 % 256 ∷ []

-- the four bytes from place i on
abbrev pub number4 : List ℕ → ℕ → ℕ
number4 bytes i = slice_index bytes i + slice_index bytes (i + 1) * 256 + slice_index bytes (i + 2) * 65536 + slice_index bytes (i + 3) * 16777216

abbrev pub piece : ℕ → ℕ → List ℕ → List ℕ
piece at n bytes = take n (drop at bytes)

unfoldable pub placed : ℕ → List ℕ → List ℕ → List ℕ
placed at bytes block = take at block ++ (bytes ++ drop (at + length bytes) block)
