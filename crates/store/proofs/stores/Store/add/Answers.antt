use Rattle.journal.specs.Committing.{followed, create_plan}
use Rattle.store.proofs.Steadiness.{completed_steady}
use Rattle.store.specs.Indexing.{change_plan}
use Rattle.store.proofs.stores.Store.add.Goals as goal

pub invariant_of-self : goal.invariant_of-self
invariant_of-self g c =
    let old = c.args.self.now in
    let stored = c.store_created-stored in
    record {
      steady = completed_steady g.D.Device old.device stored.new.device old.phase c.or_down.new.phase (followed (create_plan c.args.root.now) (change_plan c.args.change.now)) stored.result c.or_down.result
          old.steady stored.ensures c.or_down.ensures.told c.or_down.ensures.cut;
    }
