use Rattle.std.proofs.Common.{◌≡◌, true, length}
use Rattle.lookup.proofs.ReadingOn.{SoFar}
use Rattle.lookup.proofs.words.read_words.Given as goal

abbrev pub invariant-loop-p : goal.invariant-loop-p
invariant-loop-p g l =
    g.D.Device.lit l.device ≡ true → SoFar (g.D.Device.blocks l.device) l.addresses l.offset (length l.initial.buffer) l.p l.buffer
