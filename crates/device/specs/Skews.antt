-- The skew: each cylinder of 32 blocks, its sectors in another order.
--   Allowed   the factors: odd, at most 31
--   place     where the skew finds block b: in the same cylinder, at sector k × s mod 32
--   skewed    what a skewed device holds: the device below, permuted, in whole cylinders
--   SkewStores  what exactly a store through the skew does
--   Permutes  no two blocks are found at one place, each place is some block's, and none leaves its cylinder
use Rattle.std.specs.Prelude.{◌≡◌, ℕ, ◌+◌, ◌*◌, ◌/◌, ◌%◌, ◌<◌, ◌≤◌, List, map, length, Err, Result}
use Rattle.std.specs.List.{range_with_len}
use Rattle.device.specs.Blocks.{Block, block_at}
use Rattle.device.specs.declared.answers.StoreError.{StoreError}
use Rattle.device.specs.declared.answers.StoreError.TheVariants as storing

abbrev pub Allowed : ℕ → Type 0
Allowed k = (k % 2 ≡ 1) × (k ≤ 31)

abbrev pub place : ℕ → ℕ → ℕ
place k b = 32 * (b / 32) + k * (b % 32) % 32

unfoldable pub skewed : ℕ → List Block → List Block
skewed k blocks = map (λ b. block_at blocks (place k b)) (range_with_len 0 (32 * (length blocks / 32)))

pub record Permutes (k : ℕ) : Type 0 where
  pub apart : (b c : ℕ) → place k b ≡ place k c → b ≡ c
  pub onto : (p : ℕ) → (b : ℕ) × (place k b ≡ p)
  pub stays : (b : ℕ) → place k b / 32 ≡ b / 32

-- a store through the skew is one store below, at the block's place; outside, there is none
pub record SkewStores {D : Type 0} (k : ℕ) (blocks : List Block) (puts : ℕ → List ℕ → Result (Unit {0}) StoreError → D → Type 0)
    (device : D) (b : ℕ) (bytes : List ℕ) (r : Result (Unit {0}) StoreError) (k' : ℕ) (device' : D) : Type 0 where
  pub factor : k' ≡ k
  pub outside : length (skewed k blocks) ≤ b → (r ≡ Err storing.Outside) × (device' ≡ device)
  pub inside : b < length (skewed k blocks) → puts (place k b) bytes r device'

-- factor 7 takes sector 5 to 3 and sector 31 to 25; 8 is no factor
abbrev pub SkewExamples : Type 0
SkewExamples = (place 7 5 ≡ 3) × (place 7 31 ≡ 25) × (Allowed 8 → ⊥)
