-- The stores that commit a transaction.
--   place_rule   changes the entry of one root place
--   followed     one plan, and then another on the blocks that it leaves
--   closing      a list that is carried on only if it holds something
--   root_plan    the store of a root block at its own place
--   commit_plan  the maps with intentions, ascending; then the root block and the map with the commit bit, if
--                there is an intention at all
--   create_plan  the root block of a new object, and the map with its root entry
use Rattle.std.specs.Prelude.{ℕ, false, cond, List, [], ◌∷◌, ◌++◌, Some, None, ◌==◌, slice_index_or, slice_set}
use Rattle.device.specs.Blocks.{Block}
use Rattle.device.specs.Plans.{Write, write, wrote}
use Rattle.map.specs.Addresses.{cylinder_of, sector_of}
use Rattle.map.specs.declared.entry.Entry.{Entry}
use Rattle.map.specs.declared.entry.Entry.TheVariants.{Map, Root}
use Rattle.map.specs.declared.entry.RootState.TheVariants as root_state
use Rattle.map.specs.declared.kind.Kind.{Kind}
use Rattle.object.specs.Roots.{encoded_root}
use Rattle.object.specs.declared.root.Root.{Root as RootOf}
use Rattle.object.specs.declared.root.RootBlock.TheVariants.{Live}
use Rattle.journal.specs.Marking.{mark_rule}
use Rattle.journal.specs.Passes.{Rule, pass_writes, pass_plan}
use Rattle.journal.specs.declared.row.Row.{Row}
use Rattle.volume.specs.Committing.{marked}

abbrev pub place_rule : ℕ → (Entry → Entry) → Rule
place_rule r g c entries = cond (c == cylinder_of r) (Some (slice_set entries (sector_of r) (g (slice_index_or entries (sector_of r) Map)))) None

abbrev pub followed : (List Block → List Write) → (List Block → List Write) → List Block → List Write
followed p q blocks = p blocks ++ q (wrote blocks (p blocks))

abbrev pub closing : List Write → List Write → List Write
closing [] rest = []
closing (w ∷ plan) rest = (w ∷ plan) ++ rest

abbrev pub root_plan : RootOf → List Block → List Write
root_plan root blocks = write root.id.root (encoded_root (Live root)) ∷ []

-- the map of a root place with its entry changed
abbrev pub place_plan : ℕ → (Entry → Entry) → List Block → List Write
place_plan r g blocks = pass_writes (place_rule r g) blocks (cylinder_of r)

abbrev pub seal_plan : RootOf → List Block → List Write
seal_plan root = followed (root_plan root) (place_plan root.id.root marked)

abbrev pub commit_plan : RootOf → List Row → List Block → List Write
commit_plan root rows blocks =
    closing (pass_plan (mark_rule root.id rows) blocks) (seal_plan root (wrote blocks (pass_plan (mark_rule root.id rows) blocks)))

-- the entry of a new object
abbrev pub new_root : Kind → ℕ → Entry → Entry
new_root kind tag e = Root root_state.Allocated kind false tag

abbrev pub create_plan : RootOf → List Block → List Write
create_plan root = followed (root_plan root) (place_plan root.id.root (new_root root.kind root.id.tag))
