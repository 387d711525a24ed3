use Rattle.std.specs.Option.{option_map}
use Rattle.std.proofs.Common.{◌+◌, [], sym, ap, ◌∙◌, arith}
use Rattle.device.specs.Blocks.{block_at}
use Rattle.device.specs.Gathers.{gathered_all, gathered_none}
use Rattle.saving.specs.Procedure.{bytes_in, loaded}
use Rattle.saving.specs.declared.job.Job.{Job}
use Rattle.saving.proofs.Loading.{unread}
use Rattle.saving.proofs.procedure.load.Goals as goal

pub returns-in_err-ok : goal.returns-in_err-ok
returns-in_err-ok g c on =
    let blocks = g.D.Device.blocks c.args.device.now in
    let at = c.args.from + c.loop-i.i in
    let lost = unread blocks (g.D.Device.lit c.args.device.now) at c.read.result _ c.read.new.buffer on (sym c.ok.ensures.value ∙ c.in_err-ok.was) (rw c.from.ensures at c.read.ensures) in
    ap (option_map (λ (job : Job). job.parts)) c.from_residual.ensures
    ∙ sym (gathered_none (λ b. bytes_in (block_at blocks b)) 8 c.args.from c.loop-i.i (omega arith) (ap bytes_in lost))

pub returns : goal.returns
returns g c on =
    let blocks = g.D.Device.blocks c.args.device.now in
    sym (ap (loaded blocks c.args.from) (sym c.loop-i.invariant.0) ∙ gathered_all (λ b. bytes_in (block_at blocks b)) [] c.loop-i.part-items c.args.from (λ k h. ap bytes_in (c.loop-i.invariant.1 on k (omega arith))))
