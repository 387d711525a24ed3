-- A skewed device's readable blocks have 512 bytes, and what follows from the definition at once.
use Rattle.std.specs.Prelude.{◌≡◌, ℕ, ◌*◌, ◌/◌, ◌<◌, ◌≤◌, List, length}
use Rattle.std.proofs.Common.{sym, ◌∙◌, ⊎_elim, arith}
use Rattle.std.proofs.lemmas.List.FromFn.{length-map-range_with_len, get_or-map-range_with_len}
use Rattle.std.proofs.lemmas.List.{get_or_past}
use Rattle.std.proofs.lemmas.Bool.{cases_lt, true≢false}
use Rattle.device.specs.Blocks.{Block, Whole, block_at}
use Rattle.device.specs.Skews.{place, skewed}

pub skewed_size : (k : ℕ) (blocks : List Block) → length (skewed k blocks) ≡ 32 * (length blocks / 32)
unfolding skewed
skewed_size k blocks = length-map-range_with_len _ 0 (32 * (length blocks / 32))

pub skewed_at : (k : ℕ) (blocks : List Block) (b : ℕ) → b < 32 * (length blocks / 32) → block_at (skewed k blocks) b ≡ block_at blocks (place k b)
unfolding skewed
skewed_at k blocks b h = get_or-map-range_with_len (λ j. block_at blocks (place k j)) 0 (32 * (length blocks / 32)) b b Block.unreadable h (omega arith)

pub skewed_whole : (k : ℕ) (blocks : List Block) → Whole blocks → Whole (skewed k blocks)
skewed_whole k blocks whole b bytes is =
    ⊎_elim
    (λ (h : b < 32 * (length blocks / 32)). whole (place k b) bytes (sym (skewed_at k blocks b h) ∙ is))
    (λ (h : 32 * (length blocks / 32) ≤ b).
    let past : block_at (skewed k blocks) b ≡ Block.unreadable = get_or_past (skewed k blocks) b Block.unreadable (rw skewed_size h) in
    absurd (true≢false cc))
    (cases_lt b (32 * (length blocks / 32)))
