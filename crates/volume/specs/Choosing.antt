-- Which maps are to be stored again: the tests by which a restart and a settling choose them.
--   intends         an entry under an intention
--   stray           an allocated data entry that does not count: its object does not remain
--   unsettled       an entry under an intention, or stray
--   any_of          whether one of a map's entries passes a test
--   any_unsettled   a map that needs settling
--   any_committed   a map with a commit bit
--   ChoosingLaw     a map that is not chosen would not change, and its entries are quiet
use Rattle.std.specs.Prelude.{◌≡◌, Bool, true, false, not, ◌||◌, List, map}
use Rattle.std.specs.List.{list_any}
use Rattle.map.specs.declared.entry.DataState.TheVariants as data_state
use Rattle.map.specs.declared.entry.Entry.{Entry}
use Rattle.map.specs.declared.entry.Entry.TheVariants.{Map, Free, Root, Data}
use Rattle.map.specs.declared.entry.RootState.TheVariants as root_state
use Rattle.volume.specs.Counting.{Entries, bit, counts}
use Rattle.volume.specs.Meeting.{Quiet}
use Rattle.volume.specs.Settling.{settled, cleared}

abbrev pub intends : Entry → Bool
intends Map = false
intends Free = false
intends (Root root_state.Allocated kind commit tag) = false
intends (Root root_state.IntendingToDeallocate kind commit tag) = true
intends (Data data_state.Allocated position owner) = false
intends (Data data_state.IntendingToAllocate position owner) = true
intends (Data data_state.IntendingToDeallocate position owner) = true

abbrev pub stray : Entries → Entry → Bool
stray E Map = false
stray E Free = false
stray E (Root state kind commit tag) = false
stray E (Data data_state.Allocated position owner) = not (counts E (Data data_state.Allocated position owner))
stray E (Data data_state.IntendingToAllocate position owner) = false
stray E (Data data_state.IntendingToDeallocate position owner) = false

abbrev pub unsettled : Entries → Entry → Bool
unsettled E e = intends e || stray E e

abbrev pub any_of : (Entry → Bool) → List Entry → Bool
any_of test entries = list_any test entries

abbrev pub any_unsettled : Entries → List Entry → Bool
any_unsettled E entries = any_of (unsettled E) entries

-- the commit bit of a root entry is set
abbrev pub any_committed : List Entry → Bool
any_committed entries = any_of bit entries

pub record ChoosingLaw : Type 0 where
  -- one entry
  pub settled_already : (E : Entries) (e : Entry) → unsettled E e ≡ false → settled E e ≡ e
  pub cleared_already : (e : Entry) → bit e ≡ false → cleared e ≡ e
  -- an entry that neither test chooses is one of a volume at rest
  pub quiet : (E : Entries) (e : Entry) → unsettled E e ≡ false → bit e ≡ false → Quiet E e
  -- a map
  pub settled_map : (E : Entries) (entries : List Entry) → any_unsettled E entries ≡ false → map (settled E) entries ≡ entries
  pub cleared_map : (entries : List Entry) → any_committed entries ≡ false → map cleared entries ≡ entries
