use Rattle.std.proofs.Common.{arith}
use Rattle.volume.specs.Settling.{cleared}
use Rattle.volume.proofs.Mapping.{mapped_more}
use Rattle.volume.proofs.settle.clear_map.Goals as goal

pub loop-slot-preserved : goal.loop-slot-preserved
loop-slot-preserved c = mapped_more cleared _ _ _ _ c.loop-slot.invariant (omega (arith, c.told-entries)) c.clear_entry.ensures
