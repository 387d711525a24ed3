-- Examples that the premises of the laws can be met. The file with tag 5 at root place 2 is that of the worked save.
--   at_rest, removing, saved   entries: before the save, the file to be removed, and the save settled with its bit set
--   EntryPremises   the premises of the laws about entries
--   first_map, second_map   the entries of a volume at rest: the root index has block 5 for position 0, the file has
--                    block 6 for position 0 and block 37 for position 1
--   index_root, file_root   the two root blocks
--   resting         that volume, block by block, as the encoders write it
--   second_marked   its second map with block 38 marked as intending to be allocated
--   BlockPremises   the premises of the laws about blocks
use Rattle.std.specs.Prelude.{◌≡◌, ℕ, ◌*◌, ◌<◌, ◌≤◌, true, false, cond, List, ◌∷◌, ◌++◌, length, replicate, Some, None, ◌==◌, ◌≢◌, slice_set}
use Rattle.device.specs.Blocks.{Block}
use Rattle.map.specs.Addresses.{sector_of, root_place}
use Rattle.map.specs.Maps.{encoded_map, decoded_map}
use Rattle.map.specs.declared.entry.DataState.TheVariants as data_state
use Rattle.map.specs.declared.entry.Entry.{Entry}
use Rattle.map.specs.declared.entry.Entry.TheVariants.{Map, Free, Root, Data}
use Rattle.map.specs.declared.entry.RootState.TheVariants as root_state
use Rattle.map.specs.declared.identifier.Identifier.{Identifier}
use Rattle.map.specs.declared.kind.Kind.TheVariants as kind
use Rattle.object.specs.Roots.{zeros, encoded_root}
use Rattle.object.specs.declared.root.RootBlock.{RootBlock}
use Rattle.object.specs.declared.root.RootBlock.TheVariants.{Live}
use Rattle.volume.specs.Committing.{state_for, Becomes}
use Rattle.volume.specs.Counting.{Entries, bit, counted_at}
use Rattle.volume.specs.Laws.{AtRest, Intends, Same}
use Rattle.volume.specs.MapStores.{Sound, map_changed}
use Rattle.volume.specs.Meeting.{Rest}
use Rattle.volume.specs.Recoverable.{Complete, Meaning}
use Rattle.volume.specs.Volume.{cylinders_of, entry_at, lost_map, restart_entries, counted}
use Rattle.volume.specs.Worked.{file, volume_with, saving}

-- the file has block 6, and block 37 is free
abbrev pub at_rest : Entries
at_rest = volume_with false (Data data_state.Allocated 0 file) Free

-- the same, and the file is to be removed
abbrev pub removing : Entries
removing a = cond (a == 2) (Root root_state.IntendingToDeallocate kind.Special false 5) (at_rest a)

-- the worked save once it is settled: no intention is left, the commit bit is still set
abbrev pub saved : Entries
saved = volume_with true Free (Data data_state.Allocated 0 file)

pub record EntryPremises : Type 0 where
  -- intentions: the worked save marks two
  pub intends : (a : ℕ) → Intends at_rest (at_rest a) (saving false a)
  pub to_allocate : saving false 37 ≡ Data data_state.IntendingToAllocate 0 file
  pub to_deallocate : saving false 6 ≡ Data data_state.IntendingToDeallocate 0 file
  -- commit: position 0 gets block 37, and every other position stays
  pub committing : saving false 2 ≡ Root root_state.Allocated kind.Special false 5
  pub renewed : Becomes (saving false) 64 2 5 0 (Some 37)
  pub untouched : (p : ℕ) → (p ≢ 0) → Becomes (saving false) 64 2 5 p (counted_at (saving false) 64 2 p)
  -- removal: of a file that has a block
  pub to_remove : removing 2 ≡ Root root_state.IntendingToDeallocate kind.Special false 5
  pub has_block : counted_at removing 64 2 0 ≡ Some 6
  -- create: an object with tag 8 at root place 3
  pub place_free : at_rest 3 ≡ Free
  pub unnamed : (p a : ℕ) → a < 64 → state_for 3 8 p (at_rest a) ≡ None
  -- clearing: a bit is set, and no intention is left
  pub rests : (a : ℕ) → AtRest (saved a)
  pub bit_set : bit (saved 2) ≡ true

-- the root index
abbrev pub index : Identifier
index = record { tag = 9; root = 1 }

abbrev pub first_map : List Entry
first_map =
    Map ∷ Root root_state.Allocated kind.Index false 9 ∷ Root root_state.Allocated kind.Special false 5 ∷ Free ∷ Free
    ∷ Data data_state.Allocated 0 index ∷ Data data_state.Allocated 0 file ∷ replicate 25 Free

abbrev pub second_map : List Entry
second_map = Map ∷ Free ∷ Free ∷ Free ∷ Free ∷ Data data_state.Allocated 1 file ∷ replicate 26 Free

abbrev pub index_root : RootBlock
index_root = Live (record { id = index; kind = kind.Index; blocks = 5 ∷ replicate 63 0 })

abbrev pub file_root : RootBlock
file_root = Live (record { id = file; kind = kind.Special; blocks = 6 ∷ 37 ∷ replicate 62 0 })

-- maps at 0 and 32, root blocks at 1 and 2; the other root places are dead, which is a block of zeros, as is every data block
unfoldable pub resting : List Block
resting =
    Block.readable (encoded_map 0 first_map) ∷ Block.readable (encoded_root index_root) ∷ Block.readable (encoded_root file_root)
    ∷ (replicate 29 (Block.readable zeros) ++ (Block.readable (encoded_map 1 second_map) ∷ replicate 31 (Block.readable zeros)))

abbrev pub second_marked : List Entry
second_marked = slice_set second_map 6 (Data data_state.IntendingToAllocate 2 file)

pub record BlockPremises : Type 0 where
  pub two_cylinders : length resting ≡ 64
  -- meeting, torn map and rebuildable, recoverable
  pub rest : Rest resting
  pub sound : Sound resting
  pub complete : Complete resting
  pub meaning : Meaning resting (counted resting)
  -- root blocks: no map is lost
  pub none_lost : lost_map resting ≡ None
  pub place : root_place 2 ≡ true
  -- data blocks: block 6 counts for position 0 of the file, and block 7 for nothing
  pub data_blocks : (5 ≤ sector_of 6) × (5 ≤ sector_of 7)
  pub counting_block : counted_at (restart_entries resting) (32 * cylinders_of resting) 2 0 ≡ Some 6
  pub free_block : (r p : ℕ) → counted_at (restart_entries resting) (32 * cylinders_of resting) r p ≢ Some 7
  -- a whole map: its entries differ from those that are there, and count the same
  pub written : decoded_map (cylinders_of resting) 1 (encoded_map 1 second_marked) ≡ Some second_marked
  pub marked : entry_at resting 38 ≡ Free
  pub same : Same (32 * cylinders_of resting) (entry_at resting) (map_changed 1 second_marked (entry_at resting))
