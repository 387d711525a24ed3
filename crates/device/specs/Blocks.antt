-- What a device means: a list of blocks, and whether it is lit.
--   Block     512 bytes, or unreadable
--   block_at  the block at an address (past the end: unreadable)
--   Whole     every readable block has 512 bytes
--   left_by   the blocks that a cut store leaves, by the manner of the cut
--   Reads     what a read answers, and the buffer after it
--   Stores    what a store answers, and the device after it
use Rattle.std.specs.Prelude.{◌≡◌, ℕ, ◌<◌, ◌≤◌, Bool, true, false, List, length, Ok, Err, Result, slice_index_or, slice_set}
use Rattle.device.specs.declared.answers.ReadError.{ReadError}
use Rattle.device.specs.declared.answers.ReadError.TheVariants as reading
use Rattle.device.specs.declared.answers.StoreError.{StoreError}
use Rattle.device.specs.declared.answers.StoreError.TheVariants as storing
use Rattle.device.specs.declared.answers.Manner.{Manner}
use Rattle.device.specs.declared.answers.Manner.TheVariants as manner

pub data Block : Type 0 where
  unreadable : Block
  readable : List ℕ → Block

abbrev pub block_at : List Block → ℕ → Block
block_at blocks b = slice_index_or blocks b Block.unreadable

abbrev pub Whole : List Block → Type 0
Whole blocks = (b : ℕ) (bytes : List ℕ) → block_at blocks b ≡ Block.readable bytes → length bytes ≡ 512

-- a store of `bytes` at b that is cut
abbrev pub left_by : Manner → List Block → ℕ → List ℕ → List Block
left_by manner.Old blocks b bytes = blocks
left_by manner.New blocks b bytes = slice_set blocks b (Block.readable bytes)
left_by manner.Unreadable blocks b bytes = slice_set blocks b Block.unreadable

-- a read at b of a device with these blocks, lit or not; the buffer before and after it
abbrev pub Reads : List Block → Bool → ℕ → Result (Unit {0}) ReadError → List ℕ → List ℕ → Type 0
Reads blocks lit b (Err reading.Outside) old new = (length blocks ≤ b) × (new ≡ old)
Reads blocks lit b (Err reading.Dark) old new = (b < length blocks) × (lit ≡ false) × (new ≡ old)
Reads blocks lit b (Err reading.Unreadable) old new =
    (b < length blocks) × (lit ≡ true) × (block_at blocks b ≡ Block.unreadable) × (new ≡ old)
Reads blocks lit b (Ok _) old new =
    (b < length blocks) × (lit ≡ true) × (block_at blocks b ≡ Block.readable new)

-- a store of `bytes` at b; blocks and lit before it, the answer, blocks and lit after it
abbrev pub Stores : List Block → Bool → ℕ → List ℕ → Result (Unit {0}) StoreError → List Block → Bool → Type 0
Stores blocks lit b bytes (Err storing.Outside) blocks' lit' = (length blocks ≤ b) × (blocks' ≡ blocks) × (lit' ≡ lit)
Stores blocks lit b bytes (Err storing.Dark) blocks' lit' =
    (b < length blocks) × (lit' ≡ false) × (lit ≡ false → blocks' ≡ blocks)
    × ((m : Manner) × (blocks' ≡ left_by m blocks b bytes))
Stores blocks lit b bytes (Ok _) blocks' lit' =
    (b < length blocks) × (lit ≡ true) × (lit' ≡ true) × (blocks' ≡ slice_set blocks b (Block.readable bytes))
