-- An entry that holds an identifier is emptied by a transaction.
use Rattle.std.proofs.Common.{◌≡◌, ℕ, true, is_some, Some, None, Option, Result}
use Rattle.std.proofs.lemmas.Bool.{false≢true}
use Rattle.map.specs.declared.identifier.Identifier.{Identifier}
use Rattle.object.specs.declared.root.Root.{Root as RootOf}
use Rattle.store.specs.Decisions.{Decision, Follows, decide}
use Rattle.store.specs.Indexing.{free_for, entry_plan, delete_held}
use Rattle.store.specs.Model.{Model}
use Rattle.store.specs.declared.refusals.Refusal.{Refusal}

pub delete_some : (object : RootOf) (e : ℕ) (m : Model) (r : Result (Unit {0}) Refusal) (end : Model) (o : Option Identifier) → is_some o ≡ true →
    Follows (decide (free_for m.blocks object e) (λ b. Decision.go (entry_plan object e None b m.blocks) tt m.phase m.rows)) m r end → Follows (delete_held object e m o) m r end
delete_some object e m r end None some h = absurd (false≢true some)
delete_some object e m r end (Some id) some h = h
