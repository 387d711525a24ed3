use Rattle.std.proofs.lemmas.Result.{err_from_is_err_and}
use Rattle.device.specs.PlanLaws.{cut_front, runs_on}
use Rattle.saving.specs.Procedure.{copies_marked}
use Rattle.saving.proofs.procedure.save.Goals as goal

pub returns-in_err-copy_and_mark : goal.returns-in_err-copy_and_mark
returns-in_err-copy_and_mark g c =
    let p = err_from_is_err_and c.from_residual.result c.from_residual.ensures.1 in
    let ended = c.in_err-copy_and_mark.ensures in
    let blocks = g.D.Device.blocks in
    let parts = c.args.job.now.parts in
    rw p.1 (cut_front (blocks c.args.device.now) (copies_marked parts 8 1) (copies_marked parts 0 0) (blocks c.copy_and_mark.new.device) ended.0, ended.1)

pub returns : goal.returns
returns g c =
    let blocks = g.D.Device.blocks in
    let lit = g.D.Device.lit in
    let parts = c.args.job.now.parts in
    let whole = c.in_ok-copy_and_mark.ensures in
    runs_on (blocks c.args.device.now) (blocks c.copy_and_mark.new.device) (blocks c.copy_and_mark-2.new.device)
    (lit c.args.device.now) (lit c.copy_and_mark.new.device) (lit c.copy_and_mark-2.new.device)
    (copies_marked parts 8 1) (copies_marked parts 0 0) c.copy_and_mark-2.result
    whole.0 whole.1 c.copy_and_mark-2.ensures
