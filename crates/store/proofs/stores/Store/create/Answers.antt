use Rattle.std.proofs.Common.{ap, sym, refl, Some, ◌∙◌, subst}
use Rattle.std.proofs.lemmas.Bool.{ne_eqb}
use Rattle.std.specs.Option.{ok_or}
use Rattle.allocation.specs.Choosing.{free_root, chosen}
use Rattle.journal.specs.Committing.{followed, create_plan}
use Rattle.map.specs.Addresses.{cylinder_of}
use Rattle.object.specs.declared.root.Root.{Root as RootOf}
use Rattle.store.proofs.NewObjects.{comes_to_rest}
use Rattle.store.proofs.Following.{ready_when, looked, stored, err_is, decided, refused}
use Rattle.store.specs.Decisions.{Goes}
use Rattle.store.specs.Indexing.{indexed, free_for, entry_plan, new_identifier}
use Rattle.store.specs.Model.{seen}
use Rattle.store.specs.declared.phase.Asked.TheVariants as asked
use Rattle.store.specs.declared.refusals.Refusal.TheVariants as refusal
use Rattle.store.proofs.stores.Store.create.Goals as goal

pub returns : goal.returns
returns g c =
    let see = seen g.D.Device in
    let m = see c.args.self.now in
    let e = c.in_ok-entry.entry in
    let tag = c.args.tag in
    let object = c.in_ok-index.index in
    let id = c.in_ok-id.id in
    let admit = c.in_ok-admit.ensures in
    let ready = ready_when m asked.Idle c.args.self.now.steady admit in
    let r = c.add.result in
    let end = see c.add.new.self in
    let index = looked (λ all. indexed all c.args.index) m m (see c.index.new.self) c.index.result ready refl c.index.ensures in
    let place = looked (λ all. ok_or (new_identifier tag (chosen free_root (cylinder_of object.id.root) all)) refusal.Full) m (see c.index.new.self) (see c.new_identifier.new.self) c.new_identifier.result ready index.1 c.new_identifier.ensures in
    let free = looked (λ all. free_for all object e) m (see c.new_identifier.new.self) (see c.free_for.new.self) c.free_for.result ready place.1 c.free_for.ensures in
    let root = c.new_root.result in
    let entries = entry_plan object e (Some id) c.in_ok-block.block in
    let goes = subst (λ (x : RootOf). Goes m (followed (create_plan x) entries m.blocks) x.id m.phase m.rows r end) c.new_root.ensures
    (stored (followed (create_plan root) entries) root.id m (see c.free_for.new.self) end r ready free.1 c.add.ensures) in
    comes_to_rest m r end c.args.index e c.args.e c.args.kind tag object c.in_ok-kind.kind admit (sym c.in_ok-index.was ∙ index.0) c.in_ok-entry.ensures.0 c.in_ok-entry.ensures.1
    (sym c.in_ok-kind.was ∙ c.ok_or.ensures.value ∙ ap (λ o. ok_or o refusal.Range) c.kind_named.ensures) (ne_eqb tag 0 c.if-tag-eq0.false)
    (decided m r end _ (sym c.in_ok-id.was ∙ place.0)
    (decided m r end _ (sym c.in_ok-block.was ∙ free.0) goes))

pub returns-in_err-id : goal.returns-in_err-id
returns-in_err-id g c =
    let see = seen g.D.Device in
    let m = see c.args.self.now in
    let tag = c.args.tag in
    let object = c.in_ok-index.index in
    let admit = c.in_ok-admit.ensures in
    let ready = ready_when m asked.Idle c.args.self.now.steady admit in
    let r = c.from_residual-in_err-id.result in
    let end = see c.new_identifier.new.self in
    let index = looked (λ all. indexed all c.args.index) m m (see c.index.new.self) c.index.result ready refl c.index.ensures in
    let place = looked (λ all. ok_or (new_identifier tag (chosen free_root (cylinder_of object.id.root) all)) refusal.Full) m (see c.index.new.self) end c.new_identifier.result ready index.1 c.new_identifier.ensures in
    comes_to_rest m r end c.args.index c.in_ok-entry.entry c.args.e c.args.kind tag object c.in_ok-kind.kind admit (sym c.in_ok-index.was ∙ index.0) c.in_ok-entry.ensures.0 c.in_ok-entry.ensures.1
    (sym c.in_ok-kind.was ∙ c.ok_or.ensures.value ∙ ap (λ o. ok_or o refusal.Range) c.kind_named.ensures) (ne_eqb tag 0 c.if-tag-eq0.false)
    (refused m r end _ (sym c.in_err-id.was ∙ place.0) (err_is r c.in_err-id.field-0.0 c.from_residual-in_err-id.ensures.1) place.1)
