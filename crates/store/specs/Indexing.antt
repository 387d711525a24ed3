-- The rules of the calls on an index.
--   indexed        the index that a name names, or the refusal: no such object, wrong kind
--   entry_address  the block of an entry's position
--   entry_held     the identifier that an entry holds
--   free_for       a free block for an entry's position, or the refusal: full
--   entry_plan     the stores of a whole transaction that sets an entry: its block, the commit, the tail
--   change_plan    the same of a change
--   created        the root block of a new object
--   retrieve_rule, preserve_rule, delete_rule, create_rule
use Rattle.std.specs.Prelude.{ℕ, cond, not, List, [], ◌∷◌, Some, None, Ok, Err, Option, Result, ◌==◌, nat_lt, slice_index, slice_set}
use Rattle.std.specs.Option.{ok_or}
use Rattle.allocation.specs.Choosing.{free_block, free_root, chosen}
use Rattle.device.specs.Blocks.{Block}
use Rattle.device.specs.Plans.{Write, write}
use Rattle.journal.specs.Committing.{followed, commit_plan, create_plan}
use Rattle.journal.specs.Finishing.{finish_plan}
use Rattle.journal.specs.declared.row.Row.{Row}
use Rattle.journal.specs.declared.row.Row.TheVariants.{New}
use Rattle.lookup.specs.Finding.{no_blocks}
use Rattle.lookup.specs.Reading.{position_bytes}
use Rattle.map.specs.Addresses.{cylinder_of}
use Rattle.map.specs.Entries.{kind_of}
use Rattle.map.specs.Identifiers.{identified}
use Rattle.map.specs.declared.identifier.Identifier.{Identifier}
use Rattle.map.specs.declared.kind.Kind.{Kind}
use Rattle.object.specs.Indexes.{index_position, entry_of, entered}
use Rattle.object.specs.declared.root.Root.{Root as RootOf}
use Rattle.store.specs.Admission.{admitted}
use Rattle.store.specs.Decisions.{Decision, bound, decide, unless}
use Rattle.store.specs.Model.{Model}
use Rattle.store.specs.Naming.{named}
use Rattle.store.specs.Staging.{start_of}
use Rattle.store.specs.Transactions.{is_index, no_rows, root_after}
use Rattle.store.specs.declared.indexing.EntryChange.{EntryChange}
use Rattle.store.specs.declared.name.Name.{Name}
use Rattle.store.specs.declared.phase.Asked.TheVariants as asked
use Rattle.store.specs.declared.refusals.Refusal.{Refusal}
use Rattle.store.specs.declared.refusals.Refusal.TheVariants as refusal

abbrev pub index_only : RootOf → Result RootOf Refusal
index_only object = cond (is_index object.kind) (Ok object) (Err refusal.WrongKind)

abbrev pub indexed : List Block → Name → Result RootOf Refusal
indexed blocks name = bound (named blocks name) index_only

abbrev pub entry_address : RootOf → ℕ → ℕ
entry_address object e = slice_index object.blocks (index_position e)

abbrev pub entry_held : List Block → RootOf → ℕ → Option Identifier
entry_held blocks object e = entry_of (position_bytes blocks (entry_address object e)) e

abbrev pub free_for : List Block → RootOf → ℕ → Result ℕ Refusal
free_for blocks object e = ok_or (chosen (free_block no_rows) (start_of object (entry_address object e)) blocks) refusal.Full

-- the rows of a transaction that gives an entry's position a new block
abbrev pub entry_rows : ℕ → ℕ → List Row
entry_rows e b = slice_set no_rows (index_position e) (New b)

abbrev pub entry_block_plan : RootOf → ℕ → Option Identifier → ℕ → List Block → List Write
entry_block_plan object e id b blocks = write b (entered (position_bytes blocks (entry_address object e)) e id) ∷ []

abbrev pub entry_plan : RootOf → ℕ → Option Identifier → ℕ → List Block → List Write
entry_plan object e id b =
    followed (entry_block_plan object e id b)
    (followed (commit_plan (root_after object (entry_rows e b)) (entry_rows e b)) finish_plan)

abbrev pub change_plan : EntryChange → List Block → List Write
change_plan change = entry_plan change.index change.entry change.id change.block

abbrev pub retrieve_rule : Name → ℕ → Model → Decision (Option Identifier)
retrieve_rule index e m =
    decide (admitted m.phase asked.Up) (λ _.
    decide (indexed m.blocks index) (λ object.
    unless (not (nat_lt e 4096)) refusal.Range
    (Decision.go [] (entry_held m.blocks object e) m.phase m.rows)))

abbrev pub preserve_rule : Name → ℕ → Name → Model → Decision (Unit {0})
preserve_rule index e name m =
    decide (admitted m.phase asked.Idle) (λ _.
    decide (indexed m.blocks index) (λ object.
    unless (not (nat_lt e 4096)) refusal.Range
    (decide (named m.blocks name) (λ kept.
    decide (free_for m.blocks object e) (λ b.
    Decision.go (entry_plan object e (Some kept.id) b m.blocks) tt m.phase m.rows)))))

-- an entry that is empty already is left as it is
abbrev pub delete_held : RootOf → ℕ → Model → Option Identifier → Decision (Unit {0})
delete_held object e m None = Decision.go [] tt m.phase m.rows
delete_held object e m (Some id) =
    decide (free_for m.blocks object e) (λ b.
    Decision.go (entry_plan object e None b m.blocks) tt m.phase m.rows)

abbrev pub delete_rule : Name → ℕ → Model → Decision (Unit {0})
delete_rule index e m =
    decide (admitted m.phase asked.Idle) (λ _.
    decide (indexed m.blocks index) (λ object.
    unless (not (nat_lt e 4096)) refusal.Range
    (delete_held object e m (entry_held m.blocks object e))))

-- the identifier of a new object: the tag, and the root place that is chosen
abbrev pub new_identifier : ℕ → Option ℕ → Option Identifier
new_identifier tag None = None
new_identifier tag (Some r) = identified tag r

abbrev pub created : Identifier → Kind → RootOf
created id kind = record { id = id; kind = kind; blocks = no_blocks }

abbrev pub create_rule : Name → ℕ → ℕ → ℕ → Model → Decision Identifier
create_rule index e kind tag m =
    decide (admitted m.phase asked.Idle) (λ _.
    decide (indexed m.blocks index) (λ object.
    unless (not (nat_lt e 4096)) refusal.Range
    (decide (ok_or (kind_of kind) refusal.Range) (λ k.
    unless (tag == 0) refusal.TagZero
    (decide (ok_or (new_identifier tag (chosen free_root (cylinder_of object.id.root) m.blocks)) refusal.Full) (λ id.
    decide (free_for m.blocks object e) (λ b.
    Decision.go (followed (create_plan (created id k)) (entry_plan object e (Some id) b) m.blocks) id m.phase m.rows)))))))
