use Rattle.store.proofs.Steadiness.{carried_steady}
use Rattle.store.specs.Transactions.{rows_plan}
use Rattle.store.proofs.stores.Store.store_rows.Goals as goal

pub invariant_of-self : goal.invariant_of-self
invariant_of-self g c =
    let old = c.args.self.now in
    let stored = c.commit_rows-committed in
    record {
      steady = carried_steady g.D.Device old.device stored.new.device old.phase c.or_down.new.phase (rows_plan c.args.object.now old.table.rows) stored.result c.or_down.result
          old.steady stored.ensures c.or_down.ensures.told c.or_down.ensures.cut;
    }
