-- Which entries count, and what objects a restart would show. Everything here is about entries alone,
-- as a function from addresses.
--   Held         the object that a root entry holds: its kind and tag
--   remains_as   the object that remains at a root place: its entry is allocated, or intending to
--                deallocate without the commit bit
--   bit          the commit bit of a root entry
--   counts       a data entry counts: its object remains, and it is allocated, or intending to
--                deallocate without the bit, or intending to allocate with it
--   claims       the entry at an address counts for this object's position
--   counted_at   the lowest block that claims a position
--   due          the root block that the counted entries give
use Rattle.std.specs.Prelude.{ℕ, Bool, true, false, cond, not, ◌&&◌, List, map, Some, None, Option, ◌==◌}
use Rattle.std.specs.List.{range_with_len}
use Rattle.map.specs.declared.entry.DataState.{DataState}
use Rattle.map.specs.declared.entry.DataState.TheVariants as data_state
use Rattle.map.specs.declared.entry.Entry.{Entry}
use Rattle.map.specs.declared.entry.Entry.TheVariants.{Map, Free, Root, Data}
use Rattle.map.specs.declared.entry.RootState.TheVariants as root_state
use Rattle.map.specs.declared.kind.Kind.{Kind}
use Rattle.object.specs.declared.root.RootBlock.{RootBlock}
use Rattle.object.specs.declared.root.RootBlock.TheVariants.{Dead, Live}
use Rattle.volume.specs.Search.{lowest}

abbrev pub Entries : Type 0
Entries = ℕ → Entry

pub record Held : Type 0 where
  pub kind : Kind
  pub tag : ℕ

abbrev pub held : Kind → ℕ → Held
held kind tag = record { kind = kind; tag = tag }

abbrev pub remains_as : Entry → Option Held
remains_as Map = None
remains_as Free = None
remains_as (Root root_state.Allocated kind commit tag) = Some (held kind tag)
remains_as (Root root_state.IntendingToDeallocate kind commit tag) = cond commit None (Some (held kind tag))
remains_as (Data state position owner) = None

abbrev pub bit : Entry → Bool
bit Map = false
bit Free = false
bit (Root state kind commit tag) = commit
bit (Data state position owner) = false

abbrev pub has_tag : ℕ → Option Held → Bool
has_tag tag None = false
has_tag tag (Some object) = object.tag == tag

abbrev pub state_counts : DataState → Bool → Bool
state_counts data_state.Allocated commit = true
state_counts data_state.IntendingToAllocate commit = commit
state_counts data_state.IntendingToDeallocate commit = not commit

abbrev pub counts : Entries → Entry → Bool
counts E Map = false
counts E Free = false
counts E (Root state kind commit tag) = false
counts E (Data state position owner) = has_tag owner.tag (remains_as (E owner.root)) && state_counts state (bit (E owner.root))

-- a data entry of the object at root place r, for position p
abbrev pub for_position : ℕ → ℕ → Entry → Bool
for_position r p Map = false
for_position r p Free = false
for_position r p (Root state kind commit tag) = false
for_position r p (Data state position owner) = owner.root == r && position == p

abbrev pub claims : Entries → ℕ → ℕ → ℕ → Bool
claims E r p a = for_position r p (E a) && counts E (E a)

abbrev pub counted_at : Entries → ℕ → ℕ → ℕ → Option ℕ
counted_at E n r p = lowest (claims E r p) n

abbrev pub address_or_0 : Option ℕ → ℕ
address_or_0 None = 0
address_or_0 (Some a) = a

unfoldable pub counted_addresses : Entries → ℕ → ℕ → List ℕ
counted_addresses E n r = map (λ p. address_or_0 (counted_at E n r p)) (range_with_len 0 64)

abbrev pub due_for : ℕ → List ℕ → Option Held → RootBlock
due_for r addresses None = Dead
due_for r addresses (Some object) = Live (record { id = record { tag = object.tag; root = r }; kind = object.kind; blocks = addresses })

abbrev pub due : Entries → ℕ → ℕ → RootBlock
due E n r = due_for r (counted_addresses E n r) (remains_as (E r))
