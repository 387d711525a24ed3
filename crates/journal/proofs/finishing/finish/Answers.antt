use Rattle.std.proofs.Common.{subst}
use Rattle.std.proofs.lemmas.Result.{err_from_is_err_and}
use Rattle.device.specs.Plans.{wrote}
use Rattle.journal.specs.Carried.{Whole, Went}
use Rattle.journal.specs.Finishing.{clear_rule, settle_plan}
use Rattle.journal.specs.Passes.{pass_plan}
use Rattle.journal.proofs.Carrying.{still_ready, cut_longer, whole_next, cut_next}
use Rattle.journal.proofs.RootTable.{by_table}
use Rattle.journal.proofs.finishing.finish.Goals as goal

pub returns-in_err-settled : goal.returns-in_err-settled
returns-in_err-settled g c ready =
    let d = g.D.Device in
    let start = d.blocks c.args.device.now in
    let end = c.pass.new.device in
    let p = err_from_is_err_and c.from_residual-in_err-settled.result c.from_residual-in_err-settled.ensures.1 in
    let plan = by_table start c.in_ok-roots.roots (c.in_ok-roots.ensures ready) in
    rw p.1
    (cut_longer (settle_plan start) (pass_plan clear_rule (wrote start (settle_plan start)))
    (subst (λ x. Went start x (d.blocks end) (d.lit end)) plan (c.in_err-settled.ensures.stores ready)))

pub returns-in_err-cleared : goal.returns-in_err-cleared
returns-in_err-cleared g c ready =
    let d = g.D.Device in
    let start = d.blocks c.args.device.now in
    let mid = c.pass.new.device in
    let p = err_from_is_err_and c.from_residual-in_err-cleared.result c.from_residual-in_err-cleared.ensures.1 in
    let plan = by_table start c.in_ok-roots.roots (c.in_ok-roots.ensures ready) in
    let done = subst (λ x. Whole start x c.in_ok-settled.settled (d.blocks mid) (d.lit mid)) plan (c.in_ok-settled.ensures.stores ready) in
    rw p.1 (cut_next (pass_plan clear_rule) done (c.in_err-cleared.ensures.stores (still_ready ready done)))

pub returns : goal.returns
returns g c ready =
    let d = g.D.Device in
    let start = d.blocks c.args.device.now in
    let mid = c.pass.new.device in
    let plan = by_table start c.in_ok-roots.roots (c.in_ok-roots.ensures ready) in
    let done = subst (λ x. Whole start x c.in_ok-settled.settled (d.blocks mid) (d.lit mid)) plan (c.in_ok-settled.ensures.stores ready) in
    whole_next (pass_plan clear_rule) done (c.in_ok-cleared.ensures.stores (still_ready ready done))
