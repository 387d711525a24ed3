use Rattle.std.proofs.Common.{◌≡◌, drop}
use Rattle.rebuild.proofs.Stepping.{holding}
use Rattle.rebuild.proofs.lost_map.LostMap.hold_all.Given as goal

abbrev pub invariant-loop-p : goal.invariant-loop-p
invariant-loop-p l = holding l.id l.p (drop l.p l.blocks) l.self ≡ holding l.id 0 l.blocks l.initial.self
