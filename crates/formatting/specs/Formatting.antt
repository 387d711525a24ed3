-- Formatting: the stores by which a device becomes an empty volume.
--   index_of       the identifier of a root index: a tag, at block 1
--   empty_index    the root block of an index without blocks
--   first_root     the root block at an address: that of the index at its place, a dead one at every other
--   first_entry    the entry of a root index
--   first_map      the entries of a cylinder's map: its own, and that of the index if its place is there
--   format_writes  the stores of one cylinder: its four root blocks, then its map
--   format_plan    those of every cylinder, ascending
--   FormatOrder    the addresses that formatting two cylinders stores at, in order
use Rattle.std.specs.Prelude.{◌≡◌, ℕ, ◌+◌, ◌*◌, false, cond, List, [], ◌∷◌, map, replicate, ◌==◌, slice_set}
use Rattle.device.specs.Plans.{Write, write}
use Rattle.journal.specs.Carried.{planned}
use Rattle.map.specs.Addresses.{cylinder_of, sector_of}
use Rattle.map.specs.Maps.{encoded_map}
use Rattle.map.specs.declared.entry.Entry.{Entry}
use Rattle.map.specs.declared.entry.Entry.TheVariants.{Map, Free, Root}
use Rattle.map.specs.declared.entry.RootState.TheVariants as root_state
use Rattle.map.specs.declared.identifier.Identifier.{Identifier}
use Rattle.map.specs.declared.kind.Kind.TheVariants as kind
use Rattle.object.specs.Roots.{encoded_root}
use Rattle.object.specs.declared.root.RootBlock.{RootBlock}
use Rattle.object.specs.declared.root.RootBlock.TheVariants.{Dead, Live}

abbrev pub index_of : ℕ → Identifier
index_of tag = record { tag = tag; root = 1 }

abbrev pub empty_index : Identifier → RootBlock
empty_index index = Live (record { id = index; kind = kind.Index; blocks = replicate 64 0 })

abbrev pub first_root : Identifier → ℕ → RootBlock
first_root index a = cond (a == index.root) (empty_index index) Dead

abbrev pub first_entry : ℕ → Entry
first_entry tag = Root root_state.Allocated kind.Index false tag

-- a map without objects
abbrev pub empty_map : List Entry
empty_map = Map ∷ replicate 31 Free

abbrev pub first_map : Identifier → ℕ → List Entry
first_map index c = cond (c == cylinder_of index.root) (slice_set empty_map (sector_of index.root) (first_entry index.tag)) empty_map

abbrev pub root_write : Identifier → ℕ → Write
root_write index a = write a (encoded_root (first_root index a))

abbrev pub map_write : Identifier → ℕ → Write
map_write index c = write (32 * c) (encoded_map c (first_map index c))

abbrev pub format_writes : Identifier → ℕ → List Write
format_writes index c =
    root_write index (32 * c + 1) ∷ root_write index (32 * c + 2) ∷ root_write index (32 * c + 3) ∷ root_write index (32 * c + 4) ∷ map_write index c ∷ []

abbrev pub format_plan : Identifier → ℕ → List Write
format_plan index cylinders = planned (format_writes index) cylinders

abbrev pub FormatOrder : Type 0
FormatOrder = (index : Identifier) → map (λ w. w.at) (format_plan index 2) ≡ 1 ∷ 2 ∷ 3 ∷ 4 ∷ 0 ∷ 33 ∷ 34 ∷ 35 ∷ 36 ∷ 32 ∷ []
