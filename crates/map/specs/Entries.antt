-- One entry of a cylinder map: sixteen bytes.
--   encoded_entry  the bytes of an entry at an address
--   fits_entry     an entry that the address may have, in a volume of so many cylinders
--   read_entry     the entry that the bytes name, if they name one
--   decoded_entry  that entry, if it fits and its bytes are exactly these
use Rattle.std.specs.Prelude.{◌≡◌, ℕ, Bool, true, cond, ◌&&◌, List, ◌∷◌, ◌++◌, Some, None, Option, ◌==◌, nat_lt, slice_index}
use Rattle.map.specs.Addresses.{cylinder_of, sector_of, root_place, data_block}
use Rattle.map.specs.Bytes.{le4, number4}
use Rattle.map.specs.Checked.{checked}
use Rattle.map.specs.Identifiers.{is_tag, is_identifier, identified}
use Rattle.map.specs.declared.entry.DataState.{DataState}
use Rattle.map.specs.declared.entry.DataState.TheVariants as data_state
use Rattle.map.specs.declared.entry.Entry.{Entry}
use Rattle.map.specs.declared.entry.Entry.TheVariants.{Map, Free, Root, Data}
use Rattle.map.specs.declared.entry.RootState.{RootState}
use Rattle.map.specs.declared.entry.RootState.TheVariants as root_state
use Rattle.map.specs.declared.identifier.Identifier.{Identifier}
use Rattle.map.specs.declared.kind.Kind.{Kind}
use Rattle.map.specs.declared.kind.Kind.TheVariants as kind

abbrev pub kind_number : Kind → ℕ
kind_number kind.Normal = 1
kind_number kind.Special = 2
kind_number kind.Index = 3

abbrev pub root_state_number : RootState → ℕ
root_state_number root_state.Allocated = 1
root_state_number root_state.IntendingToDeallocate = 3

abbrev pub data_state_number : DataState → ℕ
data_state_number data_state.Allocated = 1
data_state_number data_state.IntendingToAllocate = 2
data_state_number data_state.IntendingToDeallocate = 3

-- state, kind, commit bit, position, four zeros, then eight bytes
abbrev pub sixteen : ℕ → ℕ → ℕ → ℕ → ℕ → ℕ → List ℕ
sixteen state kind commit position tag root =
    state ∷ kind ∷ commit ∷ position ∷ 0 ∷ 0 ∷ 0 ∷ 0 ∷ (le4 tag ++ le4 root)

abbrev pub encoded_entry : ℕ → Entry → List ℕ
encoded_entry a Map = sixteen 1 0 0 0 0 (cylinder_of a)
encoded_entry a Free = sixteen 0 0 0 0 0 0
encoded_entry a (Root state kind commit tag) = sixteen (root_state_number state) (kind_number kind) (cond commit 1 0) 0 tag a
encoded_entry a (Data state position owner) = sixteen (data_state_number state) 0 0 position owner.tag owner.root

abbrev pub fits_entry : ℕ → ℕ → Entry → Bool
fits_entry cylinders a Map = sector_of a == 0
fits_entry cylinders a Free = nat_lt 0 (sector_of a)
fits_entry cylinders a (Root state kind commit tag) = root_place a && is_tag tag
fits_entry cylinders a (Data state position owner) =
    data_block a && nat_lt position 64 && nat_lt (cylinder_of owner.root) cylinders

-- the state, or the kind, that a number stands for, if it stands for one
abbrev pub root_state_of : ℕ → Option RootState
root_state_of n = cond (n == 1) (Some root_state.Allocated) (cond (n == 3) (Some root_state.IntendingToDeallocate) None)

abbrev pub data_state_of : ℕ → Option DataState
data_state_of n =
    cond (n == 1) (Some data_state.Allocated)
    (cond (n == 2) (Some data_state.IntendingToAllocate)
    (cond (n == 3) (Some data_state.IntendingToDeallocate) None))

abbrev pub kind_of : ℕ → Option Kind
kind_of n = cond (n == 1) (Some kind.Normal) (cond (n == 2) (Some kind.Special) (cond (n == 3) (Some kind.Index) None))

abbrev pub read_root : Option RootState → Option Kind → ℕ → ℕ → Option Entry
read_root None kind commit tag = None
read_root (Some state) None commit tag = None
read_root (Some state) (Some kind) commit tag = Some (Root state kind (commit == 1) tag)

abbrev pub read_data : Option DataState → ℕ → Option Identifier → Option Entry
read_data None position owner = None
read_data (Some state) position None = None
read_data (Some state) position (Some owner) = Some (Data state position owner)

abbrev pub read_entry : ℕ → List ℕ → Option Entry
read_entry a bytes =
    cond (sector_of a == 0) (Some Map)
    (cond (slice_index bytes 0 == 0) (Some Free)
    (cond (nat_lt (sector_of a) 5)
    (read_root (root_state_of (slice_index bytes 0)) (kind_of (slice_index bytes 1)) (slice_index bytes 2) (number4 bytes 8))
    (read_data (data_state_of (slice_index bytes 0)) (slice_index bytes 3) (identified (number4 bytes 8) (number4 bytes 12)))))

abbrev pub decoded_entry : ℕ → ℕ → List ℕ → Option Entry
decoded_entry cylinders a bytes = checked (fits_entry cylinders a) (encoded_entry a) bytes (read_entry a bytes)

-- an owner is named by an identifier, as its type says
abbrev pub Named : Entry → Type 0
Named Map = Unit {0}
Named Free = Unit {0}
Named (Root state kind commit tag) = Unit {0}
Named (Data state position owner) = is_identifier owner.tag owner.root ≡ true
