-- A cylinder map: 32 entries of sixteen bytes.
--   entry_part   the bytes of the entry of sector s
--   decoded_sector  the entry of sector s
--   decoded_map  the 32 entries, if each is well formed
--   encoded_map  the bytes of the entries of cylinder c, sector after sector
--   Fitting      every entry is one that its address may have
--   MapBytesReturn, MapEntriesReturn   the two round trips
use Rattle.std.specs.Prelude.{◌≡◌, ℕ, ◌+◌, ◌*◌, ◌<◌, true, List, [], ◌∷◌, ◌++◌, length, Some, Option, slice_index_or}
use Rattle.device.specs.Gathers.{gathered}
use Rattle.map.specs.Bytes.{piece}
use Rattle.map.specs.Entries.{encoded_entry, fits_entry, decoded_entry, Named}
use Rattle.map.specs.declared.entry.Entry.{Entry}
use Rattle.map.specs.declared.entry.Entry.TheVariants.{Map}

abbrev pub entry_part : List ℕ → ℕ → List ℕ
entry_part block s = piece (16 * s) 16 block

abbrev pub decoded_sector : ℕ → ℕ → List ℕ → ℕ → Option Entry
decoded_sector cylinders c block s = decoded_entry cylinders (32 * c + s) (entry_part block s)

abbrev pub decoded_map : ℕ → ℕ → List ℕ → Option (List Entry)
decoded_map cylinders c block = gathered (decoded_sector cylinders c block) 0 32

-- the entries from address a on
unfoldable pub encoded_from : ℕ → List Entry → List ℕ
encoded_from a [] = []
encoded_from a (e ∷ es) = encoded_entry a e ++ encoded_from (a + 1) es

abbrev pub encoded_map : ℕ → List Entry → List ℕ
encoded_map c entries = encoded_from (32 * c) entries

abbrev pub Fitting : ℕ → ℕ → List Entry → Type 0
Fitting cylinders c entries =
    (s : ℕ) → s < length entries → (fits_entry cylinders (32 * c + s) (slice_index_or entries s Map) ≡ true) × Named (slice_index_or entries s Map)

-- a well formed map, read and written again, has the same bytes
abbrev pub MapBytesReturn : Type 0
MapBytesReturn = (cylinders c : ℕ) (block : List ℕ) (entries : List Entry) → length block ≡ 512 →
    decoded_map cylinders c block ≡ Some entries → (encoded_map c entries ≡ block) × Fitting cylinders c entries

-- entries written and read again are the same
abbrev pub MapEntriesReturn : Type 0
MapEntriesReturn = (cylinders c : ℕ) (entries : List Entry) → length entries ≡ 32 → Fitting cylinders c entries →
    decoded_map cylinders c (encoded_map c entries) ≡ Some entries
