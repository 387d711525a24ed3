use Rattle.journal.specs.Carried.{Ready}
use Rattle.journal.proofs.RootTable.{Tabled}
use Rattle.journal.proofs.finishing.root_entries.Given as goal
use Rattle.volume.specs.Volume.{cylinders_of, entry_at}

abbrev pub invariant-loop-cylinder : goal.invariant-loop-cylinder
invariant-loop-cylinder g l =
    let d = g.D.Device in
    Ready (d.blocks l.device) (d.lit l.device) (cylinders_of (d.blocks l.device)) → Tabled (entry_at (d.blocks l.device)) l.cylinder l.roots
