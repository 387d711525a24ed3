use Rattle.std.proofs.Common.{◌≤◌}
use Rattle.journal.specs.Carried.{Ready, Whole, planned}
use Rattle.journal.specs.Passes.{pass_writes}
use Rattle.journal.proofs.passes.pass.Given as goal
use Rattle.volume.specs.Volume.{cylinders_of}

abbrev pub invariant-loop-cylinder : goal.invariant-loop-cylinder
invariant-loop-cylinder g l =
    let d = g.D.Device in
    let start = d.blocks l.initial.device in
    (l.count ≤ l.cylinder)
    × (Ready start (d.lit l.initial.device) (cylinders_of start) →
    Whole start (planned (pass_writes (g.R.MapRule.rule l.rule) start) l.cylinder) l.count (d.blocks l.device) (d.lit l.device))
