use Rattle.std.proofs.Common.{◌≡◌, ◌*◌, take}
use Rattle.journal.specs.Marking.{intends, intended}
use Rattle.journal.specs.Rules.{any_at}
use Rattle.journal.proofs.EachAt.{partly}
use Rattle.journal.proofs.mark.Marking.mark_map.Given as goal

abbrev pub invariant-loop-s : goal.invariant-loop-s
invariant-loop-s l =
    (l.entries ≡ partly (intended l.self.owner l.self.rows) (32 * l.cylinder) l.s l.initial.entries)
    × (l.any ≡ any_at (intends l.self.owner l.self.rows) (32 * l.cylinder) (take l.s l.initial.entries))
