use Rattle.std.proofs.Common.{true, refl, subst}
use Rattle.device.specs.PlanLaws.{runs_on}
use Rattle.device.specs.Plans.{wrote, Runs}
use Rattle.journal.proofs.Carrying.{still_ready}
use Rattle.journal.specs.Committing.{create_plan}
use Rattle.store.specs.Indexing.{change_plan}
use Rattle.store.proofs.creating.store_created.Goals as goal

pub returns : goal.returns
returns g c ready =
    let d = g.D.Device in
    let start = d.blocks c.args.device.now in
    let root = c.args.root.now in
    let entries = change_plan c.args.change.now in
    let mid = c.create.new.device in
    let end = c.store.new.device in
    let first = c.in_ok-create.ensures ready in
    let rest = subst (λ all. Runs (d.blocks mid) true (entries all) c.store.result (d.blocks end) (d.lit end)) first.after (c.store.ensures (still_ready ready first)) in
    runs_on start (d.blocks mid) (d.blocks end) true true (d.lit end) (create_plan root start) (entries (wrote start (create_plan root start))) c.store.result first.after (λ on. refl) rest
