-- The map that root blocks give back when a cylinder's map is lost.
--   RootBlocks     the usable root blocks, as a function from addresses
--   holds          the root block at r holds address a for position p
--   holder         the lowest root place and position that hold an address, as 64 × place + position
--   shows          an entry outside the lost map is an intention that its object's root block shows performed
--   rebuilt_bit    the commit bit of a rebuilt root: such an intention stands
--   rebuilt        the entries with those of cylinder c rebuilt from the root blocks
--   Agree          every root block is the one that is due
--   LostMapLaw
use Rattle.std.specs.Prelude.{◌≡◌, ℕ, ◌*◌, ◌/◌, ◌%◌, ◌<◌, Bool, true, false, cond, not, ◌&&◌, List, Some, None, Option, ◌==◌, slice_index}
use Rattle.map.specs.Addresses.{cylinder_of, sector_of, root_place}
use Rattle.map.specs.Entries.{fits_entry, Named}
use Rattle.map.specs.declared.entry.DataState.TheVariants as data_state
use Rattle.map.specs.declared.entry.Entry.{Entry}
use Rattle.map.specs.declared.entry.Entry.TheVariants.{Map, Free, Root, Data}
use Rattle.map.specs.declared.entry.RootState.TheVariants as root_state
use Rattle.object.specs.declared.root.RootBlock.{RootBlock}
use Rattle.object.specs.declared.root.RootBlock.TheVariants.{Dead, Live}
use Rattle.volume.specs.Counting.{Entries, claims, due}
use Rattle.volume.specs.Laws.{Same}
use Rattle.volume.specs.Search.{lowest, any}

abbrev pub RootBlocks : Type 0
RootBlocks = ℕ → Option RootBlock

abbrev pub block_holds : Option RootBlock → ℕ → ℕ → Bool
block_holds None p a = false
block_holds (Some Dead) p a = false
block_holds (Some (Live root)) p a = slice_index root.blocks p == a

abbrev pub holds : RootBlocks → ℕ → ℕ → ℕ → Bool
holds R r p a = root_place r && block_holds (R r) p a

abbrev pub holder : RootBlocks → ℕ → ℕ → Option ℕ
holder R n a = lowest (λ k. holds R (k / 64) (k % 64) a) (64 * n)

-- a data entry that its holder gives
abbrev pub held_entry : Option RootBlock → ℕ → Entry
held_entry None p = Free
held_entry (Some Dead) p = Free
held_entry (Some (Live root)) p = Data data_state.Allocated p root.id

abbrev pub data_entry : RootBlocks → Option ℕ → Entry
data_entry R None = Free
data_entry R (Some k) = held_entry (R (k / 64)) (k % 64)

abbrev pub shows : ℕ → ℕ → List ℕ → ℕ → Entry → Bool
shows r tag blocks b Map = false
shows r tag blocks b Free = false
shows r tag blocks b (Root state kind commit of) = false
shows r tag blocks b (Data data_state.Allocated position owner) = false
shows r tag blocks b (Data data_state.IntendingToAllocate position owner) =
    (owner.root == r && tag == owner.tag) && slice_index blocks position == b
shows r tag blocks b (Data data_state.IntendingToDeallocate position owner) =
    (owner.root == r && tag == owner.tag) && not (slice_index blocks position == b)

abbrev pub rebuilt_bit : Entries → ℕ → ℕ → ℕ → ℕ → List ℕ → Bool
rebuilt_bit E n c r tag blocks = any (λ b. not (cylinder_of b == c) && shows r tag blocks b (E b)) n

abbrev pub root_entry : Entries → ℕ → ℕ → ℕ → Option RootBlock → Entry
root_entry E n c r None = Free
root_entry E n c r (Some Dead) = Free
root_entry E n c r (Some (Live root)) = Root root_state.Allocated root.kind (rebuilt_bit E n c r root.id.tag root.blocks) root.id.tag

abbrev pub rebuilt_entry : Entries → RootBlocks → ℕ → ℕ → ℕ → Entry
rebuilt_entry E R n c a =
    cond (sector_of a == 0) Map (cond (root_place a) (root_entry E n c a (R a)) (data_entry R (holder R n a)))

abbrev pub rebuilt : Entries → RootBlocks → ℕ → ℕ → Entries
rebuilt E R n c a = cond (cylinder_of a == c) (rebuilt_entry E R n c a) (E a)

abbrev pub Agree : Entries → RootBlocks → ℕ → Type 0
Agree E R n = (r : ℕ) → r < n → root_place r ≡ true → R r ≡ Some (due E n r)

-- every entry is one that its address may have, in a volume of so many cylinders
abbrev pub FitVolume : Entries → ℕ → Type 0
FitVolume E cylinders = (a : ℕ) → a < 32 * cylinders → (fits_entry cylinders a (E a) ≡ true) × Named (E a)

-- no two counted entries share object and position
abbrev pub SingleClaims : Entries → ℕ → Type 0
SingleClaims E n = (r p a b : ℕ) → a < n → b < n → claims E r p a ≡ true → claims E r p b ≡ true → a ≡ b

-- while root blocks agree with the maps, losing any one map changes nothing that a restart would show
abbrev pub LostMapLaw : Type 0
LostMapLaw = (E : Entries) (R : RootBlocks) (cylinders c : ℕ) → c < cylinders → FitVolume E cylinders → SingleClaims E (32 * cylinders) →
    Agree E R (32 * cylinders) → Same (32 * cylinders) E (rebuilt E R (32 * cylinders) c)
