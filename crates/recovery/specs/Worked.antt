-- Examples that what the laws ask for can be met, on the volume at rest whose file has block 6 for position 0 and
-- block 37 for position 1.
--   asked_rows     the transaction: position 0 is cleared, position 1 stays, position 2 gets block 38
--   asked_root     the file's new root block
--   new_object     the root block of a normal object with tag 8, to be created at root place 3
--   RequestsMet    the transaction and the create may be asked for, and block 38 may be stored at; the commit
--                  stores two maps with intentions, the root block, and the map with the commit bit
use Rattle.std.specs.Prelude.{◌≡◌, ◌<◌, ◌≤◌, List, ◌∷◌, length, replicate}
use Rattle.journal.specs.Committing.{commit_plan}
use Rattle.journal.specs.declared.row.Row.{Row}
use Rattle.journal.specs.declared.row.Row.TheVariants.{Untouched, New, Cleared}
use Rattle.map.specs.Addresses.{sector_of}
use Rattle.map.specs.declared.entry.Entry.TheVariants.{Free}
use Rattle.map.specs.declared.kind.Kind.TheVariants as kind
use Rattle.object.specs.declared.root.Root.{Root as RootOf}
use Rattle.recovery.specs.Committing.{Saves}
use Rattle.recovery.specs.Creating.{Creates}
use Rattle.volume.specs.Volume.{entry_at}
use Rattle.volume.specs.Worked.{file}
use Rattle.volume.specs.WorkedVolume.{resting}

abbrev pub asked_rows : List Row
asked_rows = Cleared ∷ Untouched ∷ New 38 ∷ replicate 61 Untouched

abbrev pub asked_root : RootOf
asked_root = record { id = file; kind = kind.Special; blocks = 0 ∷ 37 ∷ 38 ∷ replicate 61 0 }

abbrev pub new_object : RootOf
new_object = record { id = record { tag = 8; root = 3 }; kind = kind.Normal; blocks = replicate 64 0 }

pub record RequestsMet : Type 0 where
  pub saves : Saves resting asked_root asked_rows
  pub stores : length (commit_plan asked_root asked_rows resting) ≡ 4
  pub creates : Creates resting new_object
  pub stages : (38 < length resting) × (5 ≤ sector_of 38) × (entry_at resting 38 ≡ Free)
