-- The intentions of a transaction, entry by entry.
--   takes_up   a free block that a row holds as new
--   gives_up   an allocated block of the object, at a position whose row is touched
--   intends    one or the other
--   intended   the entry with that intention
--   mark_rule  marks the maps that hold a new block or a block given up
use Rattle.std.specs.Prelude.{ℕ, Bool, false, cond, ◌&&◌, List, is_some, Some, None, Option, ◌==◌}
use Rattle.map.specs.declared.entry.DataState.TheVariants as data_state
use Rattle.map.specs.declared.entry.Entry.{Entry}
use Rattle.map.specs.declared.entry.Entry.TheVariants.{Map, Free, Root, Data}
use Rattle.map.specs.declared.identifier.Identifier.{Identifier}
use Rattle.journal.specs.Passes.{Rule}
use Rattle.journal.specs.Rows.{is_touched, row_of, position_of}
use Rattle.journal.specs.Rules.{pointwise}
use Rattle.journal.specs.declared.row.Row.{Row}

-- the same tag and the same root place
abbrev pub same_object : Identifier → Identifier → Bool
same_object x y = x.tag == y.tag && x.root == y.root

abbrev pub gives_up : Identifier → List Row → ℕ → Identifier → Bool
gives_up owner rows position held = same_object held owner && is_touched (row_of rows position)

abbrev pub intends : Identifier → List Row → ℕ → Entry → Bool
intends owner rows a Map = false
intends owner rows a Free = is_some (position_of rows a)
intends owner rows a (Root state kind commit tag) = false
intends owner rows a (Data data_state.Allocated position held) = gives_up owner rows position held
intends owner rows a (Data data_state.IntendingToAllocate position held) = false
intends owner rows a (Data data_state.IntendingToDeallocate position held) = false

-- a free block for the position that is to have it
abbrev pub new_entry : Identifier → Option ℕ → Entry
new_entry owner None = Free
new_entry owner (Some position) = Data data_state.IntendingToAllocate position owner

abbrev pub intended : Identifier → List Row → ℕ → Entry → Entry
intended owner rows a Map = Map
intended owner rows a Free = new_entry owner (position_of rows a)
intended owner rows a (Root state kind commit tag) = Root state kind commit tag
intended owner rows a (Data data_state.Allocated position held) =
    cond (gives_up owner rows position held) (Data data_state.IntendingToDeallocate position held) (Data data_state.Allocated position held)
intended owner rows a (Data data_state.IntendingToAllocate position held) = Data data_state.IntendingToAllocate position held
intended owner rows a (Data data_state.IntendingToDeallocate position held) = Data data_state.IntendingToDeallocate position held

abbrev pub mark_rule : Identifier → List Row → Rule
mark_rule owner rows = pointwise (intends owner rows) (intended owner rows)
