-- Creating an object, over its whole list of stores.
--   Creates           what a create may ask for: a free root place of a volume at rest, and the root block of an
--                     object without blocks
--   empty_object      that object: every position shows zeros
--   CreatePlanLaw     the stores of a create add it and change no other, all of it or nothing
use Rattle.std.specs.Prelude.{◌≡◌, ◌*◌, ◌<◌, ◌≤◌, true, List, length, replicate, Some, None, Option}
use Rattle.device.specs.Blocks.{Block}
use Rattle.device.specs.Plans.{wrote}
use Rattle.journal.specs.Committing.{create_plan}
use Rattle.map.specs.Addresses.{root_place}
use Rattle.map.specs.Identifiers.{is_tag}
use Rattle.map.specs.declared.entry.Entry.TheVariants.{Free}
use Rattle.object.specs.declared.root.Root.{Root as RootOf}
use Rattle.recovery.specs.Plans.{ChangesWhole, ChangesCut}
use Rattle.volume.specs.Counting.{held}
use Rattle.volume.specs.Meeting.{Rest}
use Rattle.volume.specs.Recoverable.{Complete}
use Rattle.volume.specs.Volume.{cylinders_of, entry_at, content, Object, object_of}

-- blocks, and the root block of the new object
pub record Creates (blocks : List Block) (root : RootOf) : Type 0 where
  pub rest : Rest blocks
  pub complete : Complete blocks
  pub whole : length blocks ≡ 32 * cylinders_of blocks
  pub few : cylinders_of blocks ≤ 64
  -- its place is free, and its tag is a tag
  pub within : root.id.root < 32 * cylinders_of blocks
  pub place : root_place root.id.root ≡ true
  pub free : entry_at blocks root.id.root ≡ Free
  pub tag : is_tag root.id.tag ≡ true
  -- it has no blocks
  pub empty : root.blocks ≡ replicate 64 0

-- no position has a block
abbrev pub empty_object : List Block → RootOf → Option Object
empty_object blocks root = object_of (λ p. content blocks None) (Some (held root.kind root.id.tag))

-- carried out, after which the volume is at rest, or cut anywhere
pub record CreatePlanLaw : Type 0 where
  pub rest : (blocks : List Block) (root : RootOf) → Creates blocks root → Rest (wrote blocks (create_plan root blocks))
  pub whole : (blocks : List Block) (root : RootOf) → Creates blocks root → ChangesWhole blocks (create_plan root blocks) root.id.root (empty_object blocks root)
  pub cut : (blocks : List Block) (root : RootOf) → Creates blocks root → ChangesCut blocks (create_plan root blocks) root.id.root (empty_object blocks root)
