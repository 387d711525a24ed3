use Rattle.std.proofs.Common.{◌≡◌, ◌+◌, ◌*◌, drop}
use Rattle.rebuild.proofs.Stepping.{noting}
use Rattle.rebuild.proofs.lost_map.LostMap.note_bits.Given as goal

abbrev pub invariant-loop-s : goal.invariant-loop-s
invariant-loop-s l = noting (32 * l.other + l.s) (drop l.s l.map) l.self ≡ noting (32 * l.other) l.map l.initial.self
