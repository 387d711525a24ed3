-- Finding an object by its identifier.
--   found_root  what a root block says of the object, if it is live with this identifier
--   found_by    an object exists if its root entry is allocated, with its tag, and its root block is live with its
--               identifier; its kind is that of the root entry
--   found       the object of an identifier in a volume
--   blank       what is read where there is no object: no block at any position
--   held        the object of an identifier, or a blank one
use Rattle.std.specs.Prelude.{ℕ, cond, List, replicate, Some, None, Option, ◌==◌}
use Rattle.device.specs.Blocks.{Block}
use Rattle.map.specs.declared.entry.Entry.{Entry}
use Rattle.map.specs.declared.entry.Entry.TheVariants.{Map, Free, Root, Data}
use Rattle.map.specs.declared.entry.RootState.TheVariants as root_state
use Rattle.map.specs.declared.identifier.Identifier.{Identifier}
use Rattle.map.specs.declared.kind.Kind.{Kind}
use Rattle.map.specs.declared.kind.Kind.TheVariants as kinds
use Rattle.object.specs.declared.root.Root.{Root as RootOf}
use Rattle.object.specs.declared.root.RootBlock.{RootBlock}
use Rattle.object.specs.declared.root.RootBlock.TheVariants.{Dead, Live}
use Rattle.journal.specs.Marking.{same_object}
use Rattle.volume.specs.Volume.{entry_at, root_at}

abbrev pub found_root : Identifier → Kind → Option RootBlock → Option RootOf
found_root id kind None = None
found_root id kind (Some Dead) = None
found_root id kind (Some (Live root)) = cond (same_object root.id id) (Some (record { id = id; kind = kind; blocks = root.blocks })) None

abbrev pub found_by : Identifier → Entry → Option RootBlock → Option RootOf
found_by id Map o = None
found_by id Free o = None
found_by id (Root root_state.Allocated kind commit tag) o = cond (tag == id.tag) (found_root id kind o) None
found_by id (Root root_state.IntendingToDeallocate kind commit tag) o = None
found_by id (Data state position owner) o = None

abbrev pub found : List Block → Identifier → Option RootOf
found blocks id = found_by id (entry_at blocks id.root) (root_at blocks id.root)

unfoldable pub no_blocks : List ℕ
no_blocks = replicate 64 0

abbrev pub blank : Identifier → RootOf
blank id = record { id = id; kind = kinds.Special; blocks = no_blocks }

abbrev pub or_blank : Identifier → Option RootOf → RootOf
or_blank id None = blank id
or_blank id (Some object) = object

abbrev pub held : List Block → Identifier → RootOf
held blocks id = or_blank id (found blocks id)
