-- An image's readable blocks have 512 bytes, and what follows from the definition at once.
use Rattle.std.specs.Prelude.{◌≡◌, ℕ, ◌/◌, ◌<◌, ◌≤◌, List, length}
use Rattle.std.proofs.Common.{sym, ap, ◌∙◌, ⊎_elim, arith}
use Rattle.std.proofs.lemmas.List.FromFn.{length-map-range_with_len, get_or-map-range_with_len}
use Rattle.std.proofs.lemmas.List.{length-take, length-drop, get_or_past}
use Rattle.std.proofs.lemmas.Bool.{cases_lt, true≢false}
use Rattle.device.specs.Blocks.{Block, Whole, block_at}
use Rattle.device.specs.Images.{image_blocks, part}

pub image_size : (bytes : List ℕ) → length (image_blocks bytes) ≡ length bytes / 512
unfolding image_blocks
image_size bytes = length-map-range_with_len _ 0 (length bytes / 512)

pub image_block : (bytes : List ℕ) (b : ℕ) → b < length bytes / 512 → block_at (image_blocks bytes) b ≡ Block.readable (part bytes b)
unfolding image_blocks
image_block bytes b h = get_or-map-range_with_len (λ k. Block.readable (part bytes k)) 0 (length bytes / 512) b b Block.unreadable h (omega arith)

pub part_length : (bytes : List ℕ) (b : ℕ) → b < length bytes / 512 → length (part bytes b) ≡ 512
part_length bytes b h = simp (length-take, length-drop) (omega arith)

pub image_whole : (bytes : List ℕ) → Whole (image_blocks bytes)
image_whole bytes b held is =
    ⊎_elim
    (λ (h : b < length bytes / 512). let e : Block.readable (part bytes b) ≡ Block.readable held = sym (image_block bytes b h) ∙ is in
    let p : part bytes b ≡ held = cc in
    ap length (sym p) ∙ part_length bytes b h)
    (λ (h : length bytes / 512 ≤ b).
    let past : block_at (image_blocks bytes) b ≡ Block.unreadable = get_or_past (image_blocks bytes) b Block.unreadable (rw image_size h) in
    absurd (true≢false cc))
    (cases_lt b (length bytes / 512))
