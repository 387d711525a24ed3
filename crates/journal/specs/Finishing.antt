-- The tail of every change: maps are settled, then commit bits are cleared.
--   roots_of     the root entries of a volume; every other address is free
--   RootsRead    a table with the root entries of these blocks was read
--   noted        the table with the root entries of one cylinder
--   settle_rule  settles the maps that need it, by these entries
--   clear_rule   clears the maps that have a commit bit
--   settle_plan  the maps that need settling, ascending
--   finish_plan  and then the maps with a commit bit
use Rattle.std.specs.Prelude.{◌≡◌, ℕ, ◌+◌, ◌*◌, cond, List, map, Some, None, Ok, Err, Result, slice_index_or, slice_set}
use Rattle.device.specs.Blocks.{Block}
use Rattle.device.specs.Plans.{Write}
use Rattle.map.specs.Addresses.{root_place}
use Rattle.map.specs.declared.entry.Entry.{Entry}
use Rattle.map.specs.declared.entry.Entry.TheVariants.{Map, Free}
use Rattle.journal.specs.Committing.{followed}
use Rattle.journal.specs.Passes.{Rule, pass_plan}
use Rattle.volume.specs.Choosing.{any_unsettled, any_committed}
use Rattle.volume.specs.Counting.{Entries}
use Rattle.volume.specs.Settling.{settled, cleared}
use Rattle.volume.specs.Tables.{table_entries}
use Rattle.volume.specs.Volume.{entry_at}

abbrev pub roots_of : Entries → Entries
roots_of E a = cond (root_place a) (E a) Free

abbrev pub RootsRead : {E : Type 0} → List Block → Result (List Entry) E → Type 0
RootsRead blocks (Ok table) = (a : ℕ) → table_entries table a ≡ roots_of (entry_at blocks) a
RootsRead blocks (Err e) = ⊥

-- sectors 1 to 4, four slots to a cylinder
abbrev pub noted : List Entry → ℕ → List Entry → List Entry
noted table c entries =
    slice_set (slice_set (slice_set (slice_set table (4 * c) (slice_index_or entries 1 Map)) (4 * c + 1) (slice_index_or entries 2 Map)) (4 * c + 2) (slice_index_or entries 3 Map)) (4 * c + 3) (slice_index_or entries 4 Map)

abbrev pub settle_rule : Entries → Rule
settle_rule E c entries = cond (any_unsettled E entries) (Some (map (settled E) entries)) None

abbrev pub clear_rule : Rule
clear_rule c entries = cond (any_committed entries) (Some (map cleared entries)) None

abbrev pub settle_plan : List Block → List Write
settle_plan blocks = pass_plan (settle_rule (roots_of (entry_at blocks))) blocks

abbrev pub finish_plan : List Block → List Write
finish_plan = followed settle_plan (pass_plan clear_rule)
