use Rattle.store.proofs.Steadiness.{completed_steady}
use Rattle.store.specs.Indexing.{change_plan}
use Rattle.store.proofs.stores.Store.set_entry.Goals as goal

pub invariant_of-self : goal.invariant_of-self
invariant_of-self g c =
    let old = c.args.self.now in
    let stored = c.store-stored in
    record {
      steady = completed_steady g.D.Device old.device stored.new.device old.phase c.or_down.new.phase (change_plan c.args.change.now) stored.result c.or_down.result
          old.steady stored.ensures c.or_down.ensures.told c.or_down.ensures.cut;
    }
