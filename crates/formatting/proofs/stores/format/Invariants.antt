use Rattle.std.proofs.Common.{◌≡◌, ◌*◌}
use Rattle.formatting.specs.Formatting.{format_writes}
use Rattle.formatting.proofs.stores.format.Given as goal
use Rattle.journal.specs.Carried.{Ready, Whole, planned}
use Rattle.volume.specs.Volume.{cylinders_of}

abbrev pub invariant-loop-cylinder : goal.invariant-loop-cylinder
invariant-loop-cylinder g l =
    let d = g.D.Device in
    let start = d.blocks l.initial.device in
    (l.count ≡ 5 * l.cylinder)
    × (Ready start (d.lit l.initial.device) (cylinders_of start) →
    Whole start (planned (format_writes l.index) l.cylinder) l.count (d.blocks l.device) (d.lit l.device))
