-- Setting a commit bit, and creating an object: one object changes, and nothing else.
--   state_for   the state of an entry, if it is of this object, for this position
--   Becomes     what a position's entries say of the block that it will have
--   with_bit    the entries with the commit bit of one root place set
--   with_object  the entries with a new object's root entry
--   CommitLaw, RemovalLaw, CreateLaw
use Rattle.std.specs.Prelude.{◌≡◌, ℕ, ◌<◌, true, false, cond, ◌&&◌, Some, None, Option, ◌==◌, ◌≢◌}
use Rattle.map.specs.declared.entry.DataState.{DataState}
use Rattle.map.specs.declared.entry.DataState.TheVariants as data_state
use Rattle.map.specs.declared.entry.Entry.{Entry}
use Rattle.map.specs.declared.entry.Entry.TheVariants.{Map, Free, Root, Data}
use Rattle.map.specs.declared.entry.RootState.TheVariants as root_state
use Rattle.map.specs.declared.kind.Kind.{Kind}
use Rattle.volume.specs.Counting.{Entries, held, remains_as, counted_at}

abbrev pub state_for : ℕ → ℕ → ℕ → Entry → Option DataState
state_for r tag p Map = None
state_for r tag p Free = None
state_for r tag p (Root state kind commit of) = None
state_for r tag p (Data state position owner) = cond (owner.root == r && position == p && tag == owner.tag) (Some state) None

-- no entry of the object for this position is in this state, below n
abbrev pub NeverIn : Entries → ℕ → ℕ → ℕ → ℕ → DataState → Type 0
NeverIn E n r tag p state = (a : ℕ) → a < n → state_for r tag p (E a) ≢ Some state

-- the block that position p will have: the one that it has, a new one, or none
pub data Becomes (E : Entries) (n r tag p : ℕ) : Option ℕ → Type 0 where
  untouched : NeverIn E n r tag p data_state.IntendingToAllocate → NeverIn E n r tag p data_state.IntendingToDeallocate →
      Becomes E n r tag p (counted_at E n r p)
  renewed : (b : ℕ) → b < n → state_for r tag p (E b) ≡ Some data_state.IntendingToAllocate → NeverIn E n r tag p data_state.Allocated →
      ((a : ℕ) → a < n → state_for r tag p (E a) ≡ Some data_state.IntendingToAllocate → a ≡ b) → Becomes E n r tag p (Some b)
  emptied : NeverIn E n r tag p data_state.Allocated → NeverIn E n r tag p data_state.IntendingToAllocate → Becomes E n r tag p None

abbrev pub marked : Entry → Entry
marked Map = Map
marked Free = Free
marked (Root state kind commit tag) = Root state kind true tag
marked (Data state position owner) = Data state position owner

abbrev pub with_bit : ℕ → Entries → Entries
with_bit r E a = cond (a == r) (marked (E a)) (E a)

-- what is left alone when the bit of root place r is set: every other object, and its blocks
pub record OthersStay (r : ℕ) (E E' : Entries) : Type 0 where
  pub remains : (q : ℕ) → (q ≢ r) → remains_as (E' q) ≡ remains_as (E q)
  pub counted : (n q p : ℕ) → (q ≢ r) → counted_at E' n q p ≡ counted_at E n q p

-- the object stays, and each position has the block that it was to have
pub record Committed (n r tag : ℕ) (E E' : Entries) : Type 0 where
  pub object : remains_as (E' r) ≡ remains_as (E r)
  pub position : (p : ℕ) (o : Option ℕ) → Becomes E n r tag p o → counted_at E' n r p ≡ o
  pub others : OthersStay r E E'

abbrev pub CommitLaw : Type 0
CommitLaw = (E : Entries) (n r tag : ℕ) (kind : Kind) → E r ≡ Root root_state.Allocated kind false tag → Committed n r tag E (with_bit r E)

-- the object is gone
pub record Removed (n r : ℕ) (E E' : Entries) : Type 0 where
  pub object : remains_as (E' r) ≡ None
  pub position : (p : ℕ) → counted_at E' n r p ≡ None
  pub others : OthersStay r E E'

abbrev pub RemovalLaw : Type 0
RemovalLaw = (E : Entries) (n r tag : ℕ) (kind : Kind) → E r ≡ Root root_state.IntendingToDeallocate kind false tag → Removed n r E (with_bit r E)

abbrev pub with_object : ℕ → Kind → ℕ → Entries → Entries
with_object r kind tag E a = cond (a == r) (Root root_state.Allocated kind false tag) (E a)

-- an object without blocks is there
pub record Created (n r tag : ℕ) (kind : Kind) (E E' : Entries) : Type 0 where
  pub object : remains_as (E' r) ≡ Some (held kind tag)
  pub position : (p : ℕ) → counted_at E' n r p ≡ None
  pub others : OthersStay r E E'

-- a root entry at a free place, whose identifier no data entry names, makes an empty object and changes no other
abbrev pub CreateLaw : Type 0
CreateLaw = (E : Entries) (n r tag : ℕ) (kind : Kind) → E r ≡ Free → ((p a : ℕ) → a < n → state_for r tag p (E a) ≡ None) →
    Created n r tag kind E (with_object r kind tag E)
