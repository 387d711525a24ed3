-- Choosing a free block or a free root place.
--   tried       the order in which cylinders are tried: from the starting one upward, and from the last on to 0
--   free_block  a data block that is free and that no row holds
--   free_root   a root place that is free
--   first_in    the lowest address in a cylinder that passes a test of address and entry
--   first_of    the first of n answers that is one
--   found_at    what the cylinder that is tried after k others has
--   chosen      the address that is chosen: the lowest in the first cylinder that has one
use Rattle.std.specs.Prelude.{ℕ, zero, suc, ◌+◌, ◌*◌, ◌%◌, Bool, true, false, not, ◌&&◌, List, is_some, Some, None, Option, slice_index_or}
use Rattle.std.specs.Option.{option_map}
use Rattle.device.specs.Blocks.{Block}
use Rattle.map.specs.Addresses.{root_place, data_block}
use Rattle.map.specs.declared.entry.Entry.{Entry}
use Rattle.map.specs.declared.entry.Entry.TheVariants.{Map, Free, Root, Data}
use Rattle.journal.specs.Rows.{position_of}
use Rattle.journal.specs.declared.row.Row.{Row}
use Rattle.volume.specs.Search.{lowest, or_else}
use Rattle.volume.specs.Volume.{cylinders_of, map_at}

abbrev pub tried : ℕ → ℕ → ℕ → ℕ
tried cylinders start k = (start + k) % cylinders

abbrev pub is_free : Entry → Bool
is_free Map = false
is_free Free = true
is_free (Root state kind commit tag) = false
is_free (Data state position owner) = false

abbrev pub free_block : List Row → ℕ → Entry → Bool
free_block rows a e = data_block a && is_free e && not (is_some (position_of rows a))

abbrev pub free_root : ℕ → Entry → Bool
free_root a e = root_place a && is_free e

abbrev pub first_in : (ℕ → Entry → Bool) → ℕ → Option (List Entry) → Option ℕ
first_in fits c None = None
first_in fits c (Some entries) = option_map (λ s. 32 * c + s) (lowest (λ s. fits (32 * c + s) (slice_index_or entries s Map)) 32)

unfoldable pub first_of : (ℕ → Option ℕ) → ℕ → Option ℕ
first_of f zero = None
first_of f (suc n) = or_else (first_of f n) (f n)

-- what the cylinder that is tried after k others has
abbrev pub found_at : (ℕ → Entry → Bool) → ℕ → List Block → ℕ → Option ℕ
found_at fits start blocks k = first_in fits (tried (cylinders_of blocks) start k) (map_at blocks (tried (cylinders_of blocks) start k))

abbrev pub chosen : (ℕ → Entry → Bool) → ℕ → List Block → Option ℕ
chosen fits start blocks = first_of (found_at fits start blocks) (cylinders_of blocks)
