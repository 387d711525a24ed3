-- A trial drive's readable blocks have 512 bytes, and what follows from the definition at once.
use Rattle.std.specs.Prelude.{◌≡◌, ℕ, zero, suc, ◌<◌, min, Bool, true, false, cond, List, [], ◌∷◌, length, ◌==◌, ◌≢◌, slice_index, refl}
use Rattle.std.proofs.Common.{arith}
use Rattle.std.proofs.lemmas.Bool.{true≢false}
use Rattle.device.specs.Blocks.{Block, Whole, block_at}
use Rattle.device.specs.Trials.{masked}

pub masked_size : (blocks : List Block) (marks : List ℕ) → length (masked blocks marks) ≡ min (length blocks) (length marks)
unfolding masked
masked_size [] marks = omega arith
masked_size (x ∷ blocks) [] = omega arith
masked_size (x ∷ blocks) (m ∷ marks) = omega (arith, masked_size blocks marks)

pub masked_at : (blocks : List Block) (marks : List ℕ) (b : ℕ) → b < length marks → block_at (masked blocks marks) b ≡ cond (slice_index marks b == 0) (block_at blocks b) Block.unreadable
unfolding masked
masked_at [] marks b h = go (slice_index marks b == 0)
  where
    go : (t : Bool) → Block.unreadable ≡ cond t Block.unreadable Block.unreadable
    go true = refl
    go false = refl
masked_at (x ∷ blocks) [] b h = absurd (omega arith)
masked_at (x ∷ blocks) (m ∷ marks) zero h = refl
masked_at (x ∷ blocks) (m ∷ marks) (suc b) h = masked_at blocks marks b (omega arith)

never_readable : (bytes : List ℕ) → Block.unreadable ≢ Block.readable bytes
never_readable bytes e = true≢false cc

-- what can be read through the marks is what stands below them
pub masked_below : (blocks : List Block) (marks : List ℕ) (b : ℕ) (bytes : List ℕ) → block_at (masked blocks marks) b ≡ Block.readable bytes → block_at blocks b ≡ Block.readable bytes
unfolding masked
masked_below [] marks b bytes is = absurd (never_readable bytes is)
masked_below (x ∷ blocks) [] b bytes is = absurd (never_readable bytes is)
masked_below (x ∷ blocks) (m ∷ marks) zero bytes is = go (m == 0) is
  where
    go : (t : Bool) → cond t x Block.unreadable ≡ Block.readable bytes → x ≡ Block.readable bytes
    go true e = e
    go false e = absurd (never_readable bytes e)
masked_below (x ∷ blocks) (m ∷ marks) (suc b) bytes is = masked_below blocks marks b bytes is

pub masked_whole : (blocks : List Block) (marks : List ℕ) → Whole blocks → Whole (masked blocks marks)
masked_whole blocks marks whole b bytes is = whole b bytes (masked_below blocks marks b bytes is)
