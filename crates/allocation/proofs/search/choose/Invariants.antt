use Rattle.std.proofs.Common.{◌≡◌, None}
use Rattle.allocation.specs.Choosing.{first_of, found_at}
use Rattle.journal.specs.Carried.{Ready}
use Rattle.volume.specs.Volume.{cylinders_of}
use Rattle.allocation.proofs.search.choose.Given as goal

abbrev pub invariant-loop-k : goal.invariant-loop-k
invariant-loop-k g l =
    let blocks = g.D.Device.blocks l.device in
    Ready blocks (g.D.Device.lit l.device) (cylinders_of blocks) → first_of (found_at (g.W.Wanted.passes l.wanted) l.start blocks) l.k ≡ None
