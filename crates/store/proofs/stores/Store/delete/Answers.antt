use Rattle.std.proofs.Common.{◌≡◌, arith, true, false, not, ltb, is_some, None, Ok, sym, refl, ap, ◌∙◌, subst}
use Rattle.std.proofs.lemmas.Bool.{lt-ltb}
use Rattle.store.proofs.Deleting.{delete_some}
use Rattle.store.proofs.Following.{ready_when, looked, stored, decided, tested}
use Rattle.store.specs.Decisions.{Follows}
use Rattle.store.specs.Indexing.{delete_rule, indexed, entry_held, free_for, entry_plan, delete_held}
use Rattle.store.specs.Model.{seen}
use Rattle.store.specs.declared.phase.Asked.TheVariants as asked
use Rattle.store.specs.declared.refusals.Refusal.TheVariants as refusal
use Rattle.store.proofs.stores.Store.delete.Goals as goal

pub returns : goal.returns
returns g c =
    let see = seen g.D.Device in
    let m = see c.args.self.now in
    let e = c.in_ok-entry.entry in
    let object = c.in_ok-index.index in
    let held = c.in_ok-held.held in
    let admit = c.in_ok-admit.ensures in
    let ready = ready_when m asked.Idle c.args.self.now.steady admit in
    let r = c.set_entry.result in
    let end = see c.set_entry.new.self in
    let index = looked (λ all. indexed all c.args.index) m m (see c.index.new.self) c.index.result ready refl c.index.ensures in
    let entry = looked (λ all. Ok (entry_held all object e)) m (see c.index.new.self) (see c.entry.new.self) c.entry.result ready index.1 c.entry.ensures in
    let free = looked (λ all. free_for all object e) m (see c.entry.new.self) (see c.free_for.new.self) c.free_for.result ready entry.1 c.free_for.ensures in
    let goes = stored (entry_plan object e None c.in_ok-block.block) tt m (see c.free_for.new.self) end r ready free.1 c.set_entry.ensures in
    let same : e ≡ c.args.e = c.in_ok-entry.ensures.0 in
    let within : not (ltb e 4096) ≡ false = ap not (lt-ltb e 4096 (omega (arith, same, c.in_ok-entry.ensures.1))) in
    let alike : held ≡ entry_held m.blocks object e = cc (sym c.in_ok-held.was ∙ entry.0) in
    let some : is_some held ≡ true = c.is_none.ensures ∙ ap not c.if-is_none.false in
    subst (λ n. Follows (delete_rule c.args.index n m) m r end) same
    (decided m r end _ admit
    (decided m r end _ (sym c.in_ok-index.was ∙ index.0)
    (tested m r end refusal.Range _ within
    (subst (λ o. Follows (delete_held object e m o) m r end) alike
    (delete_some object e m r end held some (decided m r end _ (sym c.in_ok-block.was ∙ free.0) goes))))))
