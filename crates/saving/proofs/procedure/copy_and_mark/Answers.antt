use Rattle.std.proofs.Common.{[], ◌∷◌}
use Rattle.std.proofs.lemmas.Result.{err_from_is_err_and}
use Rattle.device.specs.PlanLaws.{cut_front, runs_on}
use Rattle.device.specs.Plans.{write}
use Rattle.saving.specs.Procedure.{copies, marker_block}
use Rattle.saving.proofs.procedure.copy_and_mark.Goals as goal

pub returns-in_err-copy : goal.returns-in_err-copy
returns-in_err-copy g c =
    let p = err_from_is_err_and c.from_residual.result c.from_residual.ensures.1 in
    let ended = c.in_err-copy.ensures in
    let blocks = g.D.Device.blocks in
    rw p.1
    (cut_front (blocks c.args.device.now) (copies c.args.job.now.parts c.args.from) (write 16 (marker_block c.args.mark) ∷ []) (blocks c.copy.new.device) ended.0, ended.1)

pub returns : goal.returns
returns g c =
    let blocks = g.D.Device.blocks in
    let lit = g.D.Device.lit in
    let whole = c.in_ok-copy.ensures in
    runs_on (blocks c.args.device.now) (blocks c.copy.new.device) (blocks c.put.new.device)
    (lit c.args.device.now) (lit c.copy.new.device) (lit c.put.new.device)
    (copies c.args.job.now.parts c.args.from) (write 16 (marker_block c.args.mark) ∷ []) c.put.result
    whole.0 whole.1 (rw c.marker_block.ensures at c.put.ensures)
