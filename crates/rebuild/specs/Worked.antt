-- A lost map rebuilt, computed from the definitions: the special file with tag 5 at root place 2 has block 37 for
-- position 0, and map 1 says that the block is to be allocated.
--   held_at_two       root blocks in which two positions of that file are this block
--   RebuildingWorked
use Rattle.std.specs.Prelude.{◌≡◌, ℕ, true, false, cond, ◌∷◌, replicate, Some, None, ◌==◌, slice_index_or}
use Rattle.map.specs.declared.entry.DataState.TheVariants as data_state
use Rattle.map.specs.declared.entry.Entry.TheVariants.{Map, Free, Root, Data}
use Rattle.map.specs.declared.entry.RootState.TheVariants as root_state
use Rattle.map.specs.declared.kind.Kind.TheVariants as kind
use Rattle.object.specs.declared.root.RootBlock.TheVariants.{Dead, Live}
use Rattle.volume.specs.Rebuilding.{RootBlocks}
use Rattle.volume.specs.Worked.{file, saving, roots_holding}
use Rattle.rebuild.specs.Laws.{rebuilt_map}
use Rattle.rebuild.specs.Taking.{taken_to, twice_to, lowest_twice}

abbrev pub held_at_two : ℕ → RootBlocks
held_at_two b r = cond (r == 2) (Some (Live (record { id = file; kind = kind.Special; blocks = b ∷ b ∷ replicate 62 0 }))) (Some Dead)

pub record RebuildingWorked : Type 0 where
  -- map 0 is lost: map 1 shows that the save is performed, so the bit is set; without the note it is not
  pub noted : slice_index_or (rebuilt_map 0 (saving true) (roots_holding 37) 64) 2 Map ≡ Root root_state.Allocated kind.Special true 5
  pub not_noted : slice_index_or (taken_to 0 (roots_holding 37) 64) 2 Map ≡ Root root_state.Allocated kind.Special false 5
  -- the root block holds block 6 still: no bit
  pub not_performed : slice_index_or (rebuilt_map 0 (saving false) (roots_holding 6) 64) 2 Map ≡ Root root_state.Allocated kind.Special false 5
  -- map 1 is lost: block 37 is its sector 5
  pub held : slice_index_or (rebuilt_map 1 (saving true) (roots_holding 37) 64) 5 Map ≡ Data data_state.Allocated 0 file
  pub free : slice_index_or (rebuilt_map 1 (saving true) (roots_holding 37) 64) 6 Map ≡ Free
  -- one root block that holds it at two positions
  pub once : lowest_twice 1 (twice_to 1 (roots_holding 37) 64) ≡ None
  pub twice : lowest_twice 1 (twice_to 1 (held_at_two 37) 64) ≡ Some 37
