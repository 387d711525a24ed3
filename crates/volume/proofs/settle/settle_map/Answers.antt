use Rattle.std.proofs.Common.{arith}
use Rattle.volume.specs.Settling.{settled}
use Rattle.volume.specs.Tables.{table_entries}
use Rattle.volume.proofs.Mapping.{mapped_more}
use Rattle.volume.proofs.settle.settle_map.Goals as goal

pub loop-slot-preserved : goal.loop-slot-preserved
loop-slot-preserved c = mapped_more (settled (table_entries c.args.roots.now)) _ _ _ _ c.loop-slot.invariant (omega (arith, c.told-entries)) c.settle_entry.ensures
