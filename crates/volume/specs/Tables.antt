-- The root entries of a volume as a table: four root places to a cylinder, 64 cylinders.
--   root_slot       where the entry of a root place stands
--   table_entries   the entries that the table gives; every address that is no root place is free
use Rattle.std.specs.Prelude.{ℕ, ◌+◌, ◌-◌, ◌*◌, cond, List, slice_index_or}
use Rattle.map.specs.Addresses.{cylinder_of, sector_of, root_place}
use Rattle.map.specs.declared.entry.Entry.{Entry}
use Rattle.map.specs.declared.entry.Entry.TheVariants.{Free}
use Rattle.volume.specs.Counting.{Entries}

abbrev pub root_slot : ℕ → ℕ
root_slot r = 4 * cylinder_of r + (sector_of r - 1)

abbrev pub table_entries : List Entry → Entries
table_entries table r = cond (root_place r) (slice_index_or table (root_slot r) Free) Free
