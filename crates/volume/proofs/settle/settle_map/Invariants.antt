use Rattle.volume.specs.Settling.{settled}
use Rattle.volume.specs.Tables.{table_entries}
use Rattle.volume.proofs.Mapping.{Mapped}
use Rattle.volume.proofs.settle.settle_map.Given as goal

abbrev pub invariant-loop-slot : goal.invariant-loop-slot
invariant-loop-slot l = Mapped (settled (table_entries l.roots)) l.initial.entries l.slot-index l.entries
