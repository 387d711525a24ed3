-- Reading what an object holds: 64 positions of 256 words, one after another. Each position has the address of its
-- block, or 0; a position without a block reads as zeros.
--   position_bytes  the bytes of a position's block; zeros if it has none, or if the block cannot be read
--   position_words  the words of a position; none if its block cannot be read
--   word_shown      word k of an object: word k % 256 of position k / 256, or 0 if that cannot be read
--   words_shown     n words of an object, from word offset on
--   has_word        whether a position has one of n words from word offset on
--   unreadable_in   the address of the lowest position that has one of these words and cannot be read
--   Filled          a buffer from word offset on holds the words that f gives, below word end
--   words_read      what a reading leaves in a buffer of n words: the words, or zeros if a position cannot be read
use Rattle.std.specs.Prelude.{◌≡◌, ℕ, ◌+◌, ◌*◌, ◌/◌, ◌%◌, ◌<◌, Bool, cond, not, ◌&&◌, List, map, length, replicate, is_some, Some, None, Option, ◌==◌, nat_lt, slice_index}
use Rattle.std.specs.List.{range_with_len}
use Rattle.std.specs.Option.{option_map}
use Rattle.device.specs.Blocks.{Block, block_at}
use Rattle.journal.specs.Carried.{bytes_in}
use Rattle.object.specs.Roots.{zeros}
use Rattle.volume.specs.Search.{lowest}
use Rattle.volume.specs.Volume.{content, some_address}

-- zeros where there are no bytes
abbrev pub bytes_or_zeros : Option (List ℕ) → List ℕ
bytes_or_zeros None = zeros
bytes_or_zeros (Some bytes) = bytes

abbrev pub position_bytes : List Block → ℕ → List ℕ
position_bytes blocks a = cond (a == 0) zeros (bytes_or_zeros (bytes_in (block_at blocks a)))

abbrev pub position_words : List Block → ℕ → Option (List ℕ)
position_words blocks a = content blocks (some_address a)

-- word i of a position
abbrev pub word_of : Option (List ℕ) → ℕ → ℕ
word_of None i = 0
word_of (Some words) i = slice_index words i

abbrev pub word_shown : List Block → List ℕ → ℕ → ℕ
word_shown blocks addresses k = word_of (position_words blocks (slice_index addresses (k / 256))) (k % 256)

unfoldable pub words_shown : List Block → List ℕ → ℕ → ℕ → List ℕ
words_shown blocks addresses offset n = map (λ i. word_shown blocks addresses (offset + i)) (range_with_len 0 n)

abbrev pub has_word : ℕ → ℕ → ℕ → Bool
has_word offset n p = nat_lt 0 n && (nat_lt (256 * p) (offset + n) && nat_lt offset (256 * p + 256))

-- a position that has one of these words and cannot be read
abbrev pub is_in_the_way : List Block → List ℕ → ℕ → ℕ → ℕ → Bool
is_in_the_way blocks addresses offset n p = has_word offset n p && not (is_some (position_words blocks (slice_index addresses p)))

abbrev pub unreadable_in : List Block → List ℕ → ℕ → ℕ → Option ℕ
unreadable_in blocks addresses offset n = option_map (λ p. slice_index addresses p) (lowest (is_in_the_way blocks addresses offset n) 64)

abbrev pub Filled : (ℕ → ℕ) → ℕ → ℕ → List ℕ → Type 0
Filled f offset end buffer = (i : ℕ) → i < length buffer → offset + i < end → slice_index buffer i ≡ f (offset + i)

-- the words, unless there is an address that cannot be read
abbrev pub words_unless : Option ℕ → List Block → List ℕ → ℕ → ℕ → List ℕ
words_unless None blocks addresses offset n = words_shown blocks addresses offset n
words_unless (Some a) blocks addresses offset n = replicate n 0

abbrev pub words_read : List Block → List ℕ → ℕ → ℕ → List ℕ
words_read blocks addresses offset n = words_unless (unreadable_in blocks addresses offset n) blocks addresses offset n
