-- Settling and clearing a map, entry by entry, and marking intentions.
--   settled   what counts is allocated, what does not is free; roots that were only to be removed
--             stay, commit bits are kept
--   cleared   commit bits are taken away, and roots that were removed are free
--   allocating, deallocating   a free block that is to be allocated, an allocated one that is to be deallocated
use Rattle.std.specs.Prelude.{ℕ, true, false, cond, List, Some, None, Option, slice_set}
use Rattle.map.specs.declared.entry.DataState.TheVariants as data_state
use Rattle.map.specs.declared.entry.Entry.{Entry}
use Rattle.map.specs.declared.entry.Entry.TheVariants.{Map, Free, Root, Data}
use Rattle.map.specs.declared.entry.RootState.TheVariants as root_state
use Rattle.map.specs.declared.identifier.Identifier.{Identifier}
use Rattle.volume.specs.Counting.{Entries, counts}

abbrev pub settled : Entries → Entry → Entry
settled E Map = Map
settled E Free = Free
settled E (Root root_state.Allocated kind commit tag) = Root root_state.Allocated kind commit tag
settled E (Root root_state.IntendingToDeallocate kind commit tag) =
    cond commit (Root root_state.IntendingToDeallocate kind true tag) (Root root_state.Allocated kind false tag)
settled E (Data state position owner) = cond (counts E (Data state position owner)) (Data data_state.Allocated position owner) Free

abbrev pub cleared : Entry → Entry
cleared Map = Map
cleared Free = Free
cleared (Root root_state.Allocated kind commit tag) = Root root_state.Allocated kind false tag
cleared (Root root_state.IntendingToDeallocate kind commit tag) = cond commit Free (Root root_state.IntendingToDeallocate kind false tag)
cleared (Data state position owner) = Data state position owner

-- a free block that is to be allocated; any other entry cannot be
abbrev pub allocating : ℕ → Identifier → Entry → Option Entry
allocating position owner Map = None
allocating position owner Free = Some (Data data_state.IntendingToAllocate position owner)
allocating position owner (Root state kind commit tag) = None
allocating position owner (Data state held by) = None

-- an allocated block that is to be deallocated; any other entry cannot be
abbrev pub deallocating : Entry → Option Entry
deallocating Map = None
deallocating Free = None
deallocating (Root state kind commit tag) = None
deallocating (Data data_state.Allocated position owner) = Some (Data data_state.IntendingToDeallocate position owner)
deallocating (Data data_state.IntendingToAllocate position owner) = None
deallocating (Data data_state.IntendingToDeallocate position owner) = None

-- the entries with the one of sector s replaced, if there is something to put there
abbrev pub put_in : List Entry → ℕ → Option Entry → List Entry
put_in entries s None = entries
put_in entries s (Some e) = slice_set entries s e
