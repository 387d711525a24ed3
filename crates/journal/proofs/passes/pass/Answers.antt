use Rattle.std.proofs.Common.{arith}
use Rattle.std.proofs.lemmas.Result.{err_from_is_err_and}
use Rattle.journal.specs.Carried.{planned}
use Rattle.journal.proofs.Carrying.{none_stored, still_ready}
use Rattle.journal.proofs.Passing.{pass_more, pass_cut}
use Rattle.volume.specs.Volume.{cylinders_of}
use Rattle.journal.proofs.passes.pass.Goals as goal

pub loop-cylinder-init : goal.loop-cylinder-init
unfolding planned
loop-cylinder-init g c = (omega arith, λ ready. none_stored ready)

pub returns-in_err-count : goal.returns-in_err-count
returns-in_err-count g c =
    let d = g.D.Device in
    let rule = g.R.MapRule.rule c.args.rule.now in
    let start = d.blocks c.args.device.now in
    let now = c.loop-cylinder.device in
    let end = c.pass_cylinder.new.device in
    let p = err_from_is_err_and c.from_residual.result c.from_residual.ensures.1 in
    record {
      few = rw p.1 tt;
      stores = λ ready.
          let first = c.loop-cylinder.invariant.1 ready in
          let went = c.in_err-count.ensures.stores (still_ready ready first) in
          rw p.1
          (pass_cut rule start c.loop-cylinder.cylinder c.loop-cylinder.count (cylinders_of start) (d.blocks now) (d.blocks end) (d.lit now) (d.lit end) (omega arith) first went);
    }

pub loop-cylinder-preserved : goal.loop-cylinder-preserved
loop-cylinder-preserved g c =
    let d = g.D.Device in
    let rule = g.R.MapRule.rule c.args.rule.now in
    let start = d.blocks c.args.device.now in
    let now = c.loop-cylinder.device in
    let end = c.pass_cylinder.new.device in
    let done = c.in_ok-count.ensures in (
      omega (arith, done.few, c.loop-cylinder.invariant.0),
      λ ready.
          let first = c.loop-cylinder.invariant.1 ready in
          pass_more rule start c.loop-cylinder.cylinder c.loop-cylinder.count c.in_ok-count.field-0 (d.blocks now) (d.blocks end) (d.lit now) (d.lit end)
          first (done.stores (still_ready ready first)),
    )
