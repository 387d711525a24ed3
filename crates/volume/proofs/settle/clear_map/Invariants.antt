use Rattle.volume.specs.Settling.{cleared}
use Rattle.volume.proofs.Mapping.{Mapped}
use Rattle.volume.proofs.settle.clear_map.Given as goal

abbrev pub invariant-loop-slot : goal.invariant-loop-slot
invariant-loop-slot l = Mapped cleared l.initial.entries l.slot-index l.entries
