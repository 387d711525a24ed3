use Rattle.std.proofs.Common.{take, vec_items}
use Rattle.store.specs.Model.{seen}
use Rattle.store.specs.Runs.{Played}
use Rattle.store.proofs.stores.Store.play.Given as goal

abbrev pub invariant-loop-call : goal.invariant-loop-call
invariant-loop-call g l =
    let start = seen g.D.Device l.initial.self in
    Played start (take l.call-index l.calls) (vec_items l.initial.log) (vec_items l.log) (seen g.D.Device l.self)
