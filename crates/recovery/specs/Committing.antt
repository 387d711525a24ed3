-- A commit, over its whole list of stores.
--   block_after       the block that a position has once its row is carried out
--   NewBlock          a free data block that a row may name
--   Saves             what an open transaction may ask for, of a volume at rest
--   saved             the object that it asks for
--   CommitPlanLaw     the stores of a commit replace the object by that one, all of it or nothing
use Rattle.std.specs.Prelude.{◌≡◌, ℕ, ◌*◌, ◌<◌, ◌≤◌, false, List, length, Some, None, Option, slice_index}
use Rattle.device.specs.Blocks.{Block, block_at}
use Rattle.journal.specs.Committing.{commit_plan}
use Rattle.journal.specs.Rows.{row_of}
use Rattle.journal.specs.declared.row.Row.{Row}
use Rattle.journal.specs.declared.row.Row.TheVariants.{Untouched, New, Cleared}
use Rattle.map.specs.Addresses.{sector_of}
use Rattle.map.specs.declared.entry.Entry.TheVariants.{Free, Root}
use Rattle.map.specs.declared.entry.RootState.TheVariants as root_state
use Rattle.map.specs.declared.kind.Kind.TheVariants as kinds
use Rattle.object.specs.declared.root.Root.{Root as RootOf}
use Rattle.recovery.specs.Plans.{ChangesWhole, ChangesCut}
use Rattle.volume.specs.Counting.{held, counted_at, address_or_0}
use Rattle.volume.specs.Meeting.{Rest}
use Rattle.volume.specs.Recoverable.{Complete}
use Rattle.volume.specs.Volume.{cylinders_of, entry_at, is_unreadable, content, Object, object_of}

-- the one that counts, the new one, or none
abbrev pub block_after : List Block → ℕ → ℕ → Row → Option ℕ
block_after blocks r p Untouched = counted_at (entry_at blocks) (32 * cylinders_of blocks) r p
block_after blocks r p (New b) = Some b
block_after blocks r p Cleared = None

-- a data block of the volume that its map has as free
pub record NewBlock (blocks : List Block) (b : ℕ) : Type 0 where
  pub free : entry_at blocks b ≡ Free
  pub place : 5 ≤ sector_of b
  pub within : b < 32 * cylinders_of blocks

-- blocks, the new root block of the object, and a row for each position
pub record Saves (blocks : List Block) (root : RootOf) (rows : List Row) : Type 0 where
  pub rest : Rest blocks
  pub complete : Complete blocks
  pub whole : length blocks ≡ 32 * cylinders_of blocks
  pub few : cylinders_of blocks ≤ 64
  -- the object exists
  pub within : root.id.root < 32 * cylinders_of blocks
  pub exists : entry_at blocks root.id.root ≡ Root root_state.Allocated root.kind false root.id.tag
  -- a row for each position, and no two for the same new block
  pub rows_long : length rows ≡ 64
  pub new : (p b : ℕ) → row_of rows p ≡ New b → NewBlock blocks b
  pub apart : (p q b : ℕ) → row_of rows p ≡ New b → row_of rows q ≡ New b → p ≡ q
  -- the root block has the address of each position's block, or 0
  pub long : length root.blocks ≡ 64
  pub addresses : (p : ℕ) → p < 64 → slice_index root.blocks p ≡ address_or_0 (block_after blocks root.id.root p (row_of rows p))
  -- an index can read its new blocks
  pub readable : root.kind ≡ kinds.Index → (p b : ℕ) → row_of rows p ≡ New b → is_unreadable (block_at blocks b) ≡ false

-- the same kind and tag, and at each position what its new block holds, zeros, or what it showed before
abbrev pub saved : List Block → RootOf → List Row → Option Object
saved blocks root rows =
    object_of (λ p. content blocks (block_after blocks root.id.root p (row_of rows p))) (Some (held root.kind root.id.tag))

-- carried out, or cut anywhere
pub record CommitPlanLaw : Type 0 where
  pub whole : (blocks : List Block) (root : RootOf) (rows : List Row) → Saves blocks root rows →
      ChangesWhole blocks (commit_plan root rows blocks) root.id.root (saved blocks root rows)
  pub cut : (blocks : List Block) (root : RootOf) (rows : List Row) → Saves blocks root rows →
      ChangesCut blocks (commit_plan root rows blocks) root.id.root (saved blocks root rows)
