-- Worked examples, computed from the rules.
use Rattle.std.specs.Prelude.{◌≡◌, ℕ, List, [], ◌∷◌, Some, None}
use Rattle.device.specs.Skews.{SkewExamples}
use Rattle.map.specs.Addresses.{cylinder_of, sector_of}
use Rattle.map.specs.Entries.{encoded_entry, decoded_entry}
use Rattle.map.specs.declared.entry.DataState.TheVariants.{IntendingToAllocate}
use Rattle.map.specs.declared.entry.Entry.{Entry}
use Rattle.map.specs.declared.entry.Entry.TheVariants.{Data}

-- a block that is to be allocated to the object of tag 5 at root place 2, for position 0
abbrev pub intended : Entry
intended = Data IntendingToAllocate 0 (record { tag = 5; root = 2 })

abbrev pub intended_bytes : List ℕ
intended_bytes = 2 ∷ 0 ∷ 0 ∷ 0 ∷ 0 ∷ 0 ∷ 0 ∷ 0 ∷ 5 ∷ 0 ∷ 0 ∷ 0 ∷ 2 ∷ 0 ∷ 0 ∷ 0 ∷ []

-- that entry with one byte changed, which no entry has: position 64, a root place of cylinder 64, a tag of 0;
-- and a root entry of block 2 that intends to allocate, or is of kind 4
abbrev pub Refused : Type 0
Refused =
    (decoded_entry 2 6 (2 ∷ 0 ∷ 0 ∷ 64 ∷ 0 ∷ 0 ∷ 0 ∷ 0 ∷ 5 ∷ 0 ∷ 0 ∷ 0 ∷ 2 ∷ 0 ∷ 0 ∷ 0 ∷ []) ≡ None)
    × (decoded_entry 65 6 (2 ∷ 0 ∷ 0 ∷ 0 ∷ 0 ∷ 0 ∷ 0 ∷ 0 ∷ 5 ∷ 0 ∷ 0 ∷ 0 ∷ 1 ∷ 8 ∷ 0 ∷ 0 ∷ []) ≡ None)
    × (decoded_entry 2 6 (2 ∷ 0 ∷ 0 ∷ 0 ∷ 0 ∷ 0 ∷ 0 ∷ 0 ∷ 0 ∷ 0 ∷ 0 ∷ 0 ∷ 2 ∷ 0 ∷ 0 ∷ 0 ∷ []) ≡ None)
    × (decoded_entry 2 2 (2 ∷ 1 ∷ 0 ∷ 0 ∷ 0 ∷ 0 ∷ 0 ∷ 0 ∷ 5 ∷ 0 ∷ 0 ∷ 0 ∷ 2 ∷ 0 ∷ 0 ∷ 0 ∷ []) ≡ None)
    × (decoded_entry 2 2 (1 ∷ 4 ∷ 0 ∷ 0 ∷ 0 ∷ 0 ∷ 0 ∷ 0 ∷ 5 ∷ 0 ∷ 0 ∷ 0 ∷ 2 ∷ 0 ∷ 0 ∷ 0 ∷ []) ≡ None)

-- address 37 is cylinder 1, sector 5; the entry of block 6 is written and read so in two cylinders
abbrev pub MapExamples : Type 0
MapExamples =
    (cylinder_of 37 ≡ 1) × (sector_of 37 ≡ 5)
    × (encoded_entry 6 intended ≡ intended_bytes) × (decoded_entry 2 6 intended_bytes ≡ Some intended)
    × Refused × SkewExamples
