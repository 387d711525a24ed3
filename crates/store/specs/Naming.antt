-- Objects by the two numbers that a caller offers.
--   named   the object that they name, or the refusal: no such object
use Rattle.std.specs.Prelude.{List, Some, None, Option, Result}
use Rattle.std.specs.Option.{ok_or}
use Rattle.device.specs.Blocks.{Block}
use Rattle.lookup.specs.Finding.{found}
use Rattle.map.specs.Identifiers.{identified}
use Rattle.map.specs.declared.identifier.Identifier.{Identifier}
use Rattle.object.specs.declared.root.Root.{Root as RootOf}
use Rattle.store.specs.declared.name.Name.{Name}
use Rattle.store.specs.declared.refusals.Refusal.{Refusal}
use Rattle.store.specs.declared.refusals.Refusal.TheVariants as refusal

abbrev pub found_if : List Block → Option Identifier → Option RootOf
found_if blocks None = None
found_if blocks (Some id) = found blocks id

abbrev pub named : List Block → Name → Result RootOf Refusal
named blocks name = ok_or (found_if blocks (identified name.tag name.root)) refusal.NoSuchObject
