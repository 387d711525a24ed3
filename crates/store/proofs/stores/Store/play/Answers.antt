use Rattle.std.proofs.Common.{vec_items, subst, arith}
use Rattle.std.proofs.lemmas.List.{take_all}
use Rattle.store.proofs.Playing.{played_none, played_more}
use Rattle.store.specs.Model.{seen}
use Rattle.store.specs.Runs.{Played}
use Rattle.store.proofs.stores.Store.play.Goals as goal

pub loop-call-init : goal.loop-call-init
loop-call-init g c = played_none (seen g.D.Device c.args.self.now) (vec_items c.args.log.now) c.args.self.now.steady

pub loop-call-preserved : goal.loop-call-preserved
loop-call-preserved g c =
    let see = seen g.D.Device in
    played_more (see c.args.self.now) (see c.loop-call.self) (see c.step.new.self) c.args.calls.now c.loop-call.call-index c.call-item.result c.in_ok-answer.answer
    (vec_items c.args.log.now) (vec_items c.loop-call.log) (vec_items c.push.new.self) (omega arith) c.call-item.is c.loop-call.invariant
    c.in_ok-answer.ensures c.in_ok-push.ensures.items c.step.new.self.steady

pub returns : goal.returns
returns g c =
    let see = seen g.D.Device in
    subst (λ calls. Played (see c.args.self.now) calls (vec_items c.args.log.now) (vec_items c.loop-call.log) (see c.loop-call.self))
    (take_all c.loop-call.call-index c.args.calls.now (omega arith)) c.loop-call.invariant
