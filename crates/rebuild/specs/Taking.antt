-- The lost map of cylinder c, taken from root blocks one by one.
--   empty_map             the map of a cylinder that holds nothing
--   of_lost               a data block of cylinder c
--   held_in, held_from    the entries once an address, or a list of them, is held by this object from position p on
--   twice_in, twice_from  the sectors that are held again
--   root_in_map           the entries with the root entry of a live root block of cylinder c
--   root_taken            the entries once a root block is seen; a dead one, or one at no root place, changes nothing
--   root_twice            the sectors held twice by then
--   taken_to, twice_to    the same after all root blocks below address m
--   lowest_twice          the lowest address that is held twice
use Rattle.std.specs.Prelude.{ℕ, zero, suc, ◌+◌, ◌*◌, Bool, true, false, cond, not, ◌&&◌, List, [], ◌∷◌, get_or, replicate, Some, None, Option, ◌==◌, slice_index_or, slice_set}
use Rattle.map.specs.Addresses.{cylinder_of, sector_of, root_place, data_block}
use Rattle.map.specs.declared.entry.DataState.TheVariants as data_state
use Rattle.map.specs.declared.entry.Entry.{Entry}
use Rattle.map.specs.declared.entry.Entry.TheVariants.{Map, Free, Root, Data}
use Rattle.map.specs.declared.entry.RootState.TheVariants as root_state
use Rattle.map.specs.declared.identifier.Identifier.{Identifier}
use Rattle.map.specs.declared.kind.Kind.{Kind}
use Rattle.object.specs.declared.root.RootBlock.{RootBlock}
use Rattle.object.specs.declared.root.RootBlock.TheVariants.{Dead, Live}
use Rattle.volume.specs.Rebuilding.{RootBlocks}
use Rattle.volume.specs.Search.{lowest}

abbrev pub empty_map : List Entry
empty_map = slice_set (replicate 32 Free) 0 Map

-- no sector is held twice
abbrev pub none_twice : List Bool
none_twice = replicate 32 false

-- nobody holds the sector
abbrev pub is_free : Entry → Bool
is_free Map = false
is_free Free = true
is_free (Root state kind commit tag) = false
is_free (Data state position owner) = false

abbrev pub of_lost : ℕ → ℕ → Bool
of_lost c a = cylinder_of a == c && data_block a

-- the first to hold a data block of the lost cylinder gets it
abbrev pub held_in : ℕ → Identifier → ℕ → ℕ → List Entry → List Entry
held_in c id p a es =
    cond (of_lost c a && is_free (slice_index_or es (sector_of a) Map)) (slice_set es (sector_of a) (Data data_state.Allocated p id)) es

-- any other makes it held twice
abbrev pub twice_in : ℕ → ℕ → List Entry → List Bool → List Bool
twice_in c a es ts = cond (of_lost c a && not (is_free (slice_index_or es (sector_of a) Map))) (slice_set ts (sector_of a) true) ts

-- a list of addresses, the first of which stands at position p
unfoldable pub held_from : ℕ → Identifier → ℕ → List ℕ → List Entry → List Entry
held_from c id p [] es = es
held_from c id p (a ∷ addresses) es = held_from c id (p + 1) addresses (held_in c id p a es)

unfoldable pub twice_from : ℕ → Identifier → ℕ → List ℕ → List Entry → List Bool → List Bool
twice_from c id p [] es ts = ts
twice_from c id p (a ∷ addresses) es ts = twice_from c id (p + 1) addresses (held_in c id p a es) (twice_in c a es ts)

abbrev pub root_in_map : ℕ → ℕ → Kind → ℕ → List Entry → List Entry
root_in_map c r kind tag es = cond (cylinder_of r == c) (slice_set es (sector_of r) (Root root_state.Allocated kind false tag)) es

abbrev pub root_taken : ℕ → ℕ → Option RootBlock → List Entry → List Entry
root_taken c r None es = es
root_taken c r (Some Dead) es = es
root_taken c r (Some (Live root)) es =
    cond (root_place r) (held_from c root.id 0 root.blocks (root_in_map c r root.kind root.id.tag es)) es

abbrev pub root_twice : ℕ → ℕ → Option RootBlock → List Entry → List Bool → List Bool
root_twice c r None es ts = ts
root_twice c r (Some Dead) es ts = ts
root_twice c r (Some (Live root)) es ts =
    cond (root_place r) (twice_from c root.id 0 root.blocks (root_in_map c r root.kind root.id.tag es) ts) ts

unfoldable pub taken_to : ℕ → RootBlocks → ℕ → List Entry
taken_to c R zero = empty_map
taken_to c R (suc m) = root_taken c m (R m) (taken_to c R m)

unfoldable pub twice_to : ℕ → RootBlocks → ℕ → List Bool
twice_to c R zero = none_twice
twice_to c R (suc m) = root_twice c m (R m) (taken_to c R m) (twice_to c R m)

-- a sector of cylinder c as an address
abbrev pub address_in : ℕ → Option ℕ → Option ℕ
address_in c None = None
address_in c (Some s) = Some (32 * c + s)

abbrev pub lowest_twice : ℕ → List Bool → Option ℕ
lowest_twice c ts = address_in c (lowest (λ s. get_or ts s false) 32)
