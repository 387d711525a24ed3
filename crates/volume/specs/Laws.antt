-- The laws about entries: what a change of maps leaves of the objects that a restart would show.
--   Same        two states of the maps count the same: objects, and blocks for their positions
--   changed     the entries with those of some sectors changed
--   Intends     an entry that is marked with an intention of an object whose commit bit is not set
--   SettlingLaw, ClearingLaw, IntentionLaw
use Rattle.std.specs.Prelude.{◌≡◌, ℕ, ◌<◌, Bool, false, cond}
use Rattle.map.specs.declared.entry.DataState.TheVariants as data_state
use Rattle.map.specs.declared.entry.Entry.{Entry}
use Rattle.map.specs.declared.entry.Entry.TheVariants.{Map, Free, Root, Data}
use Rattle.map.specs.declared.identifier.Identifier.{Identifier}
use Rattle.volume.specs.Counting.{Entries, remains_as, bit, claims, counted_at, due}
use Rattle.volume.specs.Settling.{settled, cleared}

-- in a volume of n blocks: every object that remains, every position's block, and so every root block that is due
pub record Same (n : ℕ) (E E' : Entries) : Type 0 where
  pub remains : (r : ℕ) → r < n → remains_as (E' r) ≡ remains_as (E r)
  pub counted : (r p : ℕ) → counted_at E' n r p ≡ counted_at E n r p
  pub owed : (r : ℕ) → r < n → due E' n r ≡ due E n r
  pub claim : (r p a : ℕ) → a < n → claims E' r p a ≡ claims E r p a

abbrev pub changed : (ℕ → Bool) → (Entry → Entry) → Entries → Entries
changed on f E a = cond (on a) (f (E a)) (E a)

-- settling any of the maps, in any order, changes nothing that a restart would show
abbrev pub SettlingLaw : Type 0
SettlingLaw = (n : ℕ) (E : Entries) (on : ℕ → Bool) → Same n E (changed on (settled E) E)

-- no data block is under an intention
abbrev pub AtRest : Entry → Type 0
AtRest Map = Unit {0}
AtRest Free = Unit {0}
AtRest (Root state kind commit tag) = Unit {0}
AtRest (Data data_state.Allocated position owner) = Unit {0}
AtRest (Data data_state.IntendingToAllocate position owner) = ⊥
AtRest (Data data_state.IntendingToDeallocate position owner) = ⊥

-- with no intention left in any map, clearing commit bits in any of the maps changes nothing either
abbrev pub ClearingLaw : Type 0
ClearingLaw = (n : ℕ) (E : Entries) (on : ℕ → Bool) → ((a : ℕ) → AtRest (E a)) → Same n E (changed on cleared E)

pub data Intends (E : Entries) : Entry → Entry → Type 0 where
  stays : {e : Entry} → Intends E e e
  allocates : (position : ℕ) (owner : Identifier) → bit (E owner.root) ≡ false → Intends E Free (Data data_state.IntendingToAllocate position owner)
  deallocates : (position : ℕ) (owner : Identifier) → bit (E owner.root) ≡ false →
      Intends E (Data data_state.Allocated position owner) (Data data_state.IntendingToDeallocate position owner)

-- intentions of objects whose commit bit is not set change nothing
abbrev pub IntentionLaw : Type 0
IntentionLaw = (n : ℕ) (E E' : Entries) → ((a : ℕ) → Intends E (E a) (E' a)) → Same n E E'
