-- A create that is taken comes to ask for its new identifier.
use Rattle.std.proofs.Common.{◌≡◌, ℕ, ◌<◌, Bool, false, not, ltb, Some, Ok, Result, ◌==◌, sym, ap, ◌∙◌, subst, arith}
use Rattle.std.proofs.lemmas.Bool.{lt-ltb}
use Rattle.std.specs.Option.{ok_or}
use Rattle.allocation.specs.Choosing.{free_root, chosen}
use Rattle.journal.specs.Committing.{followed, create_plan}
use Rattle.map.specs.Addresses.{cylinder_of}
use Rattle.map.specs.Entries.{kind_of}
use Rattle.map.specs.declared.identifier.Identifier.{Identifier}
use Rattle.map.specs.declared.kind.Kind.{Kind}
use Rattle.object.specs.declared.root.Root.{Root as RootOf}
use Rattle.store.proofs.Following.{decided, tested}
use Rattle.store.specs.Admission.{admitted}
use Rattle.store.specs.Decisions.{Decision, Follows, decide}
use Rattle.store.specs.Indexing.{create_rule, created, indexed, free_for, entry_plan, new_identifier}
use Rattle.store.specs.Model.{Model}
use Rattle.store.specs.declared.name.Name.{Name}
use Rattle.store.specs.declared.phase.Asked.TheVariants as asked
use Rattle.store.specs.declared.refusals.Refusal.{Refusal}
use Rattle.store.specs.declared.refusals.Refusal.TheVariants as refusal

-- what is left once the entry and the kind are known
abbrev pub create_rest : RootOf → ℕ → Kind → ℕ → Model → Decision Identifier
create_rest object e k tag m =
    decide (ok_or (new_identifier tag (chosen free_root (cylinder_of object.id.root) m.blocks)) refusal.Full) (λ id.
    decide (free_for m.blocks object e) (λ b.
    Decision.go (followed (create_plan (created id k)) (entry_plan object e (Some id) b) m.blocks) id m.phase m.rows))

pub comes_to_rest : (m : Model) (r : Result Identifier Refusal) (end : Model) (index : Name) (e n kind tag : ℕ) (object : RootOf) (k : Kind) →
    Ok tt ≡ admitted m.phase asked.Idle → Ok object ≡ indexed m.blocks index → e ≡ n → n < 4096 → Ok k ≡ ok_or (kind_of kind) refusal.Range → (tag == 0) ≡ false →
    Follows (create_rest object e k tag m) m r end → Follows (create_rule index n kind tag m) m r end
comes_to_rest m r end index e n kind tag object k admit found same few known tagged rest =
    let within : not (ltb e 4096) ≡ false = ap not (lt-ltb e 4096 (omega (arith, same, few))) in
    subst (λ x. Follows (create_rule index x kind tag m) m r end) same
    (decided m r end _ admit
    (decided m r end _ found
    (tested m r end refusal.Range _ within
    (decided m r end _ known
    (tested m r end refusal.TagZero _ tagged rest)))))
