use Rattle.std.proofs.Common.{arith}
use Rattle.std.proofs.lemmas.Result.{err_from_is_err_and}
use Rattle.saving.proofs.Copies.{cut_copies}
use Rattle.saving.proofs.procedure.copy.Goals as goal

pub returns-in_err-put : goal.returns-in_err-put
returns-in_err-put g c =
    let p = err_from_is_err_and c.from_residual.result c.from_residual.ensures.1 in
    let ended = rw c.from.ensures at c.in_err-put.ensures in
    let blocks = g.D.Device.blocks in
    rw p.1 (
      cut_copies c.args.job.now.parts c.loop-i.i c.args.from (omega arith)
          (blocks c.args.device.now) (blocks c.loop-i.device) (blocks c.put.new.device) c.loop-i.invariant.0 ended.0,
      ended.1,
    )
