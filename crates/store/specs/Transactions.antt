-- The rules of the calls on a transaction.
--   is_index     the kind of an index
--   no_rows      every position untouched
--   root_after   the root block of an object once its rows are carried out
--   rows_plan    the stores of the commit of an object's rows
--   begin_rule, abandon_rule, clear_rule, commit_rule, settle_rule
use Rattle.std.specs.Prelude.{ℕ, Bool, true, false, not, List, [], length, replicate, ◌==◌, nat_lt, slice_index, slice_set}
use Rattle.device.specs.Blocks.{Block}
use Rattle.device.specs.Plans.{Write}
use Rattle.journal.specs.Committing.{commit_plan}
use Rattle.journal.specs.Finishing.{finish_plan}
use Rattle.journal.specs.Rows.{cleared_row, new_addresses}
use Rattle.journal.specs.declared.row.Row.{Row}
use Rattle.journal.specs.declared.row.Row.TheVariants.{Untouched}
use Rattle.lookup.specs.Finding.{held}
use Rattle.map.specs.declared.identifier.Identifier.{Identifier}
use Rattle.map.specs.declared.kind.Kind.{Kind}
use Rattle.map.specs.declared.kind.Kind.TheVariants as kinds
use Rattle.object.specs.declared.root.Root.{Root as RootOf}
use Rattle.store.specs.Admission.{admitted}
use Rattle.store.specs.Decisions.{Decision, decide, unless}
use Rattle.store.specs.Model.{Model}
use Rattle.store.specs.Naming.{named}
use Rattle.store.specs.declared.name.Name.{Name}
use Rattle.store.specs.declared.phase.Asked.TheVariants as asked
use Rattle.store.specs.declared.phase.Phase.TheVariants as phase
use Rattle.store.specs.declared.refusals.Refusal.TheVariants as refusal
use Rattle.store.specs.declared.tickets.OpenTicket.{OpenTicket}
use Rattle.store.specs.declared.tickets.WaitingTicket.{WaitingTicket}

abbrev pub is_index : Kind → Bool
is_index kinds.Normal = false
is_index kinds.Special = false
is_index kinds.Index = true

unfoldable pub no_rows : List Row
no_rows = replicate 64 Untouched

abbrev pub begin_rule : Name → Model → Decision OpenTicket
begin_rule name m =
    decide (admitted m.phase asked.Idle) (λ _.
    decide (named m.blocks name) (λ object.
    unless (is_index object.kind) refusal.WrongKind
    (Decision.go [] (record { id = object.id }) (phase.Open object.id) m.rows)))

abbrev pub abandon_rule : OpenTicket → Model → Decision (Unit {0})
abandon_rule ticket m = decide (admitted m.phase (asked.Open ticket.id)) (λ _. Decision.go [] tt phase.Idle no_rows)

-- whether an object has a block for a position
abbrev pub has_block : List ℕ → ℕ → Bool
has_block addresses p = not (slice_index addresses p == 0)

abbrev pub clear_rule : OpenTicket → ℕ → Model → Decision (Unit {0})
clear_rule ticket position m =
    decide (admitted m.phase (asked.Open ticket.id)) (λ _.
    unless (not (nat_lt position 64)) refusal.Range
    (Decision.go [] tt m.phase (slice_set m.rows position (cleared_row (has_block (held m.blocks ticket.id).blocks position)))))

-- the root block of an object once its rows are carried out
abbrev pub root_after : RootOf → List Row → RootOf
root_after object rows = record { id = object.id; kind = object.kind; blocks = new_addresses rows object.blocks }

-- the stores of a commit of these rows
abbrev pub rows_plan : RootOf → List Row → List Block → List Write
rows_plan object rows = commit_plan (root_after object rows) rows

abbrev pub commit_writes : Identifier → Model → List Write
commit_writes id m = commit_plan (root_after (held m.blocks id) m.rows) m.rows m.blocks

-- the answer counts the stores
abbrev pub commit_rule : OpenTicket → Model → Decision (WaitingTicket × ℕ)
commit_rule ticket m =
    decide (admitted m.phase (asked.Open ticket.id)) (λ _.
    Decision.go (commit_writes ticket.id m) (record { id = ticket.id }, length (commit_writes ticket.id m)) (phase.Waiting ticket.id) m.rows)

abbrev pub settle_rule : WaitingTicket → Model → Decision ℕ
settle_rule ticket m =
    decide (admitted m.phase (asked.Waiting ticket.id)) (λ _.
    Decision.go (finish_plan m.blocks) (length (finish_plan m.blocks)) phase.Idle no_rows)
