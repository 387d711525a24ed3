-- The rows of a transaction: what it is to do with each position.
--   is_touched   a row that is new or cleared
--   is_new       a row that holds this new block
--   row_of       the row of a position
--   cleared_row  a row that is cleared
--   new_address, new_addresses   the address that a position is to have, and those of all positions
--   position_of  the lowest position whose row holds this new block
use Rattle.std.specs.Prelude.{ℕ, Bool, true, false, List, map, length, Option, ◌==◌, slice_index, slice_index_or}
use Rattle.std.specs.List.{range_with_len}
use Rattle.journal.specs.declared.row.Row.{Row}
use Rattle.journal.specs.declared.row.Row.TheVariants.{Untouched, New, Cleared}
use Rattle.volume.specs.Search.{lowest}

abbrev pub is_touched : Row → Bool
is_touched Untouched = false
is_touched (New b) = true
is_touched Cleared = true

abbrev pub is_new : ℕ → Row → Bool
is_new a Untouched = false
is_new a (New b) = b == a
is_new a Cleared = false

abbrev pub row_of : List Row → ℕ → Row
row_of rows p = slice_index_or rows p Untouched

abbrev pub position_of : List Row → ℕ → Option ℕ
position_of rows a = lowest (λ p. is_new a (row_of rows p)) (length rows)

-- a row that is cleared: untouched if the position has no block
abbrev pub cleared_row : Bool → Row
cleared_row true = Cleared
cleared_row false = Untouched

abbrev pub new_address : Row → ℕ → ℕ
new_address Untouched old = old
new_address (New b) old = b
new_address Cleared old = 0

-- the addresses of an object once its rows are carried out
unfoldable pub new_addresses : List Row → List ℕ → List ℕ
new_addresses rows old = map (λ p. new_address (row_of rows p) (slice_index old p)) (range_with_len 0 64)
