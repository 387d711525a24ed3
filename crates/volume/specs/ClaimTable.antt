-- The table of claims: for each root place and position the lowest block that counts for it, filled in one pass
-- over the entries, address by address.
--   claim_slot   where the block of a root place's position stands: 64 positions to a root place
--   entry_slot   the slot that a data entry is for
--   claimed      the table once an entry is seen: its address, if it counts and is the first for its slot
--   doubled      the entry counts, and another has its slot already
--   filled_to    the table after the addresses below m
--   claimed_from, first_doubled   the same for the entries of one map, and the first that finds its slot taken
--   TableLaw     then each slot has the lowest block that counts for it
use Rattle.std.specs.Prelude.{◌≡◌, ℕ, zero, suc, ◌+◌, ◌*◌, ◌<◌, ◌≤◌, Bool, true, cond, not, ◌&&◌, List, [], ◌∷◌, replicate, Some, None, Option, ◌==◌, slice_index, slice_set}
use Rattle.map.specs.Addresses.{root_place}
use Rattle.map.specs.declared.entry.Entry.{Entry}
use Rattle.map.specs.declared.entry.Entry.TheVariants.{Map, Free, Root, Data}
use Rattle.volume.specs.Counting.{Entries, counts, counted_at, address_or_0}
use Rattle.volume.specs.Rebuilding.{FitVolume}
use Rattle.volume.specs.Tables.{root_slot}

abbrev pub claim_slot : ℕ → ℕ → ℕ
claim_slot r p = 64 * root_slot r + p

abbrev pub entry_slot : Entry → ℕ
entry_slot Map = 0
entry_slot Free = 0
entry_slot (Root state kind commit tag) = 0
entry_slot (Data state position owner) = claim_slot owner.root position

abbrev pub doubled : Entries → Entry → List ℕ → Bool
doubled E e table = counts E e && not (slice_index table (entry_slot e) == 0)

abbrev pub claimed : Entries → ℕ → Entry → List ℕ → List ℕ
claimed E a e table = cond (counts E e && slice_index table (entry_slot e) == 0) (slice_set table (entry_slot e) a) table

unfoldable pub filled_to : Entries → ℕ → List ℕ
filled_to E zero = replicate 16384 0
filled_to E (suc m) = claimed E m (E m) (filled_to E m)

abbrev pub TableLaw : Type 0
TableLaw = (E : Entries) (cylinders r p : ℕ) → cylinders ≤ 64 → FitVolume E cylinders → root_place r ≡ true → r < 2048 → p < 64 →
    slice_index (filled_to E (32 * cylinders)) (claim_slot r p) ≡ address_or_0 (counted_at E (32 * cylinders) r p)

-- the table after a list of entries, the first of which stands at address a
unfoldable pub claimed_from : Entries → ℕ → List Entry → List ℕ → List ℕ
claimed_from E a [] table = table
claimed_from E a (e ∷ entries) table = claimed_from E (a + 1) entries (claimed E a e table)

-- the first of them that counts for a slot that another has
unfoldable pub first_doubled : Entries → ℕ → List Entry → List ℕ → Option ℕ
first_doubled E a [] table = None
first_doubled E a (e ∷ entries) table = cond (doubled E e table) (Some a) (first_doubled E (a + 1) entries (claimed E a e table))
