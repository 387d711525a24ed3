use Rattle.std.proofs.Common.{◌≡◌, ℕ, ◌+◌, ◌<◌, true, [], length, get_or}
use Rattle.device.specs.Blocks.{Block, block_at}
use Rattle.saving.proofs.procedure.load.Given as goal

abbrev pub invariant-loop-i : goal.invariant-loop-i
invariant-loop-i g l =
    (length l.part-items ≡ 8)
    × (g.D.Device.lit l.device ≡ true → (k : ℕ) → k < l.i → block_at (g.D.Device.blocks l.device) (l.from + k) ≡ Block.readable (get_or l.part-items k []))
