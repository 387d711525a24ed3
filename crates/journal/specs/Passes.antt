-- A pass over the cylinder maps of a volume: each map that a rule changes is stored.
--   Rule         what a rule makes of a cylinder's entries; none if the map is to stay
--   pass_write   the store of a map, if there is one
--   pass_writes  the stores of one cylinder: none where the map cannot be used or is to stay
--   pass_plan    those of every cylinder, ascending
use Rattle.std.specs.Prelude.{ℕ, ◌*◌, List, [], ◌∷◌, Some, None, Option}
use Rattle.device.specs.Blocks.{Block}
use Rattle.device.specs.Plans.{Write, write}
use Rattle.map.specs.Maps.{encoded_map}
use Rattle.map.specs.declared.entry.Entry.{Entry}
use Rattle.journal.specs.Carried.{planned}
use Rattle.volume.specs.Volume.{cylinders_of, map_at}

abbrev pub Rule : Type 0
Rule = ℕ → List Entry → Option (List Entry)

abbrev pub pass_write : ℕ → Option (List Entry) → List Write
pass_write c None = []
pass_write c (Some entries) = write (32 * c) (encoded_map c entries) ∷ []

-- the entries that a rule makes of those that were read
abbrev pub ruled : Rule → ℕ → Option (List Entry) → Option (List Entry)
ruled rule c None = None
ruled rule c (Some entries) = rule c entries

abbrev pub pass_writes : Rule → List Block → ℕ → List Write
pass_writes rule blocks c = pass_write c (ruled rule c (map_at blocks c))

abbrev pub pass_plan : Rule → List Block → List Write
pass_plan rule blocks = planned (pass_writes rule blocks) (cylinders_of blocks)
