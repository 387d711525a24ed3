use Rattle.std.proofs.Common.{arith}
use Rattle.std.proofs.lemmas.Result.{err_from_is_err_and}
use Rattle.formatting.proofs.Cylinders.{cylinder_more, cylinder_cut}
use Rattle.formatting.proofs.stores.format.Goals as goal
use Rattle.journal.proofs.Carrying.{none_stored}
use Rattle.journal.specs.Carried.{planned}
use Rattle.volume.specs.Volume.{cylinders_of}

pub loop-cylinder-init : goal.loop-cylinder-init
unfolding planned
loop-cylinder-init g c = (omega arith, λ ready. none_stored ready)

pub returns-in_err-format_cylinder : goal.returns-in_err-format_cylinder
returns-in_err-format_cylinder g c ready =
    let d = g.D.Device in
    let now = c.loop-cylinder.device in
    let end = c.format_cylinder.new.device in
    let p = err_from_is_err_and c.from_residual.result c.from_residual.ensures.1 in
    rw p.1
    (cylinder_cut c.args.index (d.blocks c.args.device.now) (d.blocks now) (d.blocks end) (d.lit now) (d.lit end) c.loop-cylinder.cylinder c.loop-cylinder.count
    (c.loop-cylinder.invariant.1 ready) (cylinders_of (d.blocks c.args.device.now)) (omega (arith, ready.few)) c.in_err-format_cylinder.ensures)

pub loop-cylinder-preserved : goal.loop-cylinder-preserved
loop-cylinder-preserved g c =
    let d = g.D.Device in
    let now = c.loop-cylinder.device in
    let end = c.format_cylinder.new.device in (
      omega (arith, c.loop-cylinder.invariant.0),
      λ ready.
          cylinder_more c.args.index (d.blocks c.args.device.now) (d.blocks now) (d.blocks end) (d.lit now) (d.lit end) c.loop-cylinder.cylinder c.loop-cylinder.count
          (c.loop-cylinder.invariant.1 ready) c.in_ok-format_cylinder.ensures,
    )
