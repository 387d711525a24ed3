use Rattle.std.proofs.lemmas.Result.{err_from_is_err_and}
use Rattle.device.specs.Plans.{wrote}
use Rattle.journal.specs.Committing.{seal_plan}
use Rattle.journal.specs.Marking.{mark_rule}
use Rattle.journal.specs.Passes.{pass_plan}
use Rattle.journal.proofs.Carrying.{still_ready, whole_next, cut_next, closing_none, closing_on, closing_cut}
use Rattle.journal.proofs.committing.commit.Goals as goal

pub returns-in_err-marked : goal.returns-in_err-marked
returns-in_err-marked g c ready =
    let start = g.D.Device.blocks c.args.device.now in
    let root = c.args.root.now in
    let marks = pass_plan (mark_rule root.id c.args.rows.now) start in
    let p = err_from_is_err_and c.from_residual.result c.from_residual.ensures.1 in
    rw p.1 (closing_cut marks (seal_plan root (wrote start marks)) (c.in_err-marked.ensures.stores ready))

pub returns-then-marked-eq0 : goal.returns-then-marked-eq0
returns-then-marked-eq0 g c ready =
    let start = g.D.Device.blocks c.args.device.now in
    let root = c.args.root.now in
    let marks = pass_plan (mark_rule root.id c.args.rows.now) start in
    let done = c.in_ok-marked.ensures.stores ready in
    closing_none marks (seal_plan root (wrote start marks)) (rw c.if-marked-eq0.true at done)

pub returns-in_err-sealed : goal.returns-in_err-sealed
returns-in_err-sealed g c ready =
    let start = g.D.Device.blocks c.args.device.now in
    let root = c.args.root.now in
    let marks = pass_plan (mark_rule root.id c.args.rows.now) start in
    let p = err_from_is_err_and c.from_residual-in_err-sealed.result c.from_residual-in_err-sealed.ensures.1 in
    let done = c.in_ok-marked.ensures.stores ready in
    rw (p.1, closing_on marks (seal_plan root (wrote start marks)) c.if-marked-eq0.false done)
    (cut_next (seal_plan root) done (c.in_err-sealed.ensures.stores (still_ready ready done)))

pub returns : goal.returns
returns g c ready =
    let start = g.D.Device.blocks c.args.device.now in
    let root = c.args.root.now in
    let marks = pass_plan (mark_rule root.id c.args.rows.now) start in
    let done = c.in_ok-marked.ensures.stores ready in
    rw (closing_on marks (seal_plan root (wrote start marks)) c.if-marked-eq0.false done)
    (whole_next (seal_plan root) done (c.in_ok-sealed.ensures.stores (still_ready ready done)))
