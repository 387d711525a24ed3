-- The volume that formatting leaves.
--   empty_entry   the entry of an address: a map at sector 0, the index at block 1, and every other free
--   only_index    the objects: the index at block 1, of which every position reads as zeros, and no other
--   EmptyVolume   a complete volume at rest that has those entries and shows those objects
--   FormatLaw     the stores of formatting make an empty volume of any whole cylinders, at least one
use Rattle.std.specs.Prelude.{◌≡◌, ℕ, ◌*◌, ◌<◌, ◌≤◌, true, cond, List, length, replicate, Some, None, Option, ◌==◌}
use Rattle.device.specs.Blocks.{Block}
use Rattle.device.specs.Plans.{wrote}
use Rattle.formatting.specs.Formatting.{index_of, first_entry, format_plan}
use Rattle.map.specs.Addresses.{sector_of}
use Rattle.map.specs.Identifiers.{is_tag}
use Rattle.map.specs.declared.entry.Entry.{Entry}
use Rattle.map.specs.declared.entry.Entry.TheVariants.{Map, Free}
use Rattle.map.specs.declared.kind.Kind.TheVariants as kind
use Rattle.volume.specs.Meeting.{Rest}
use Rattle.volume.specs.Recoverable.{Complete}
use Rattle.volume.specs.Volume.{cylinders_of, entry_at, Object, counted}

abbrev pub empty_entry : ℕ → ℕ → Entry
empty_entry tag a = cond (sector_of a == 0) Map (cond (a == 1) (first_entry tag) Free)

-- every position reads as a block of zeros
abbrev pub blank_index : ℕ → Object
blank_index tag = record { kind = kind.Index; tag = tag; positions = λ p. Some (replicate 256 0) }

abbrev pub only_index : ℕ → ℕ → Option Object
only_index tag r = cond (r == 1) (Some (blank_index tag)) None

pub record EmptyVolume (tag : ℕ) (blocks : List Block) : Type 0 where
  pub rest : Rest blocks
  pub complete : Complete blocks
  pub entries : (a : ℕ) → a < 32 * cylinders_of blocks → entry_at blocks a ≡ empty_entry tag a
  pub shows : (r : ℕ) → r < 32 * cylinders_of blocks → counted blocks r ≡ only_index tag r

abbrev pub FormatLaw : Type 0
FormatLaw = (tag cylinders : ℕ) (blocks : List Block) → is_tag tag ≡ true → length blocks ≡ 32 * cylinders → 1 ≤ cylinders →
    EmptyVolume tag (wrote blocks (format_plan (index_of tag) cylinders))
