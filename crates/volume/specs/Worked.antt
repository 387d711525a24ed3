-- A save across two cylinders, computed from the definitions: the special file with tag 5 at root place 2 has
-- block 6 for position 0, and block 37 is to take its place.
--   saving          the entries once the intentions are marked, with the commit bit set or not
--   roots_with      root blocks in which that file has these addresses
--   roots_holding   root blocks in which position 0 of that file is this block
--   SaveWorked      what counts before and after the bit, settled, cleared, and with either map lost
--   PremisesHold    the premises of the lost-map law, on this volume
--   ShortcutsFail   three shortcuts that would mix two saves
use Rattle.std.specs.Prelude.{◌≡◌, ℕ, ◌%◌, Bool, true, false, cond, List, ◌∷◌, replicate, Some, None, ◌==◌}
use Rattle.map.specs.declared.entry.DataState.TheVariants as data_state
use Rattle.map.specs.declared.entry.Entry.{Entry}
use Rattle.map.specs.declared.entry.Entry.TheVariants.{Map, Free, Root, Data}
use Rattle.map.specs.declared.entry.RootState.TheVariants as root_state
use Rattle.map.specs.declared.identifier.Identifier.{Identifier}
use Rattle.map.specs.declared.kind.Kind.TheVariants as kind
use Rattle.object.specs.declared.root.RootBlock.TheVariants.{Dead, Live}
use Rattle.volume.specs.Committing.{with_bit}
use Rattle.volume.specs.Counting.{Entries, claims, counted_at, due}
use Rattle.volume.specs.Rebuilding.{RootBlocks, rebuilt, FitVolume, SingleClaims, Agree}
use Rattle.volume.specs.Settling.{settled, cleared}

abbrev pub file : Identifier
file = record { tag = 5; root = 2 }

-- the root index at block 1, the file at block 2, and the two blocks in these states
abbrev pub volume_with : Bool → Entry → Entry → Entries
volume_with commit six thirty_seven a =
    cond (a % 32 == 0) Map
    (cond (a == 1) (Root root_state.Allocated kind.Index false 9)
    (cond (a == 2) (Root root_state.Allocated kind.Special commit 5)
    (cond (a == 6) six
    (cond (a == 37) thirty_seven Free))))

abbrev pub saving : Bool → Entries
saving commit = volume_with commit (Data data_state.IntendingToDeallocate 0 file) (Data data_state.IntendingToAllocate 0 file)

abbrev pub roots_with : List ℕ → RootBlocks
roots_with addresses r =
    cond (r == 1) (Some (Live (record { id = record { tag = 9; root = 1 }; kind = kind.Index; blocks = replicate 64 0 })))
    (cond (r == 2) (Some (Live (record { id = file; kind = kind.Special; blocks = addresses }))) (Some Dead))

abbrev pub roots_holding : ℕ → RootBlocks
roots_holding b r =
    cond (r == 1) (Some (Live (record { id = record { tag = 9; root = 1 }; kind = kind.Index; blocks = replicate 64 0 })))
    (cond (r == 2) (Some (Live (record { id = file; kind = kind.Special; blocks = b ∷ replicate 63 0 }))) (Some Dead))

pub record SaveWorked : Type 0 where
  -- the intentions alone change nothing; the bit does
  pub before : counted_at (saving false) 64 2 0 ≡ Some 6
  pub bit_set : counted_at (with_bit 2 (saving false)) 64 2 0 ≡ Some 37
  -- the root blocks that agree before and after
  pub due_before : Some (due (saving false) 64 2) ≡ roots_holding 6 2
  pub due_after : Some (due (saving true) 64 2) ≡ roots_holding 37 2
  -- settled, then cleared
  pub old_freed : settled (saving true) (saving true 6) ≡ Free
  pub new_kept : settled (saving true) (saving true 37) ≡ Data data_state.Allocated 0 file
  pub bit_cleared : cleared (saving true 2) ≡ Root root_state.Allocated kind.Special false 5
  -- with the bit, and map 0 or map 1 lost: the bit is found again, and block 37 counts
  pub lost_0_bit : rebuilt (saving true) (roots_holding 37) 64 0 2 ≡ Root root_state.Allocated kind.Special true 5
  pub lost_0_claim : claims (rebuilt (saving true) (roots_holding 37) 64 0) 2 0 37 ≡ true
  pub lost_1_entry : rebuilt (saving true) (roots_holding 37) 64 1 37 ≡ Data data_state.Allocated 0 file
  -- without it: block 6 counts
  pub lost_0_entry : rebuilt (saving false) (roots_holding 6) 64 0 6 ≡ Data data_state.Allocated 0 file
  pub lost_1_free : rebuilt (saving false) (roots_holding 6) 64 1 37 ≡ Free

pub record ShortcutsFail : Type 0 where
  -- a block that is to be allocated, whose partner is not yet to be deallocated, does not empty the position:
  -- the old block counts
  pub partnerless : counted_at (volume_with false (Data data_state.IntendingToAllocate 0 file) (Data data_state.Allocated 0 file)) 64 2 0 ≡ Some 37
  -- map 0 rebuilt without the bit, while map 1 holds a performed intention: neither block counts, and the
  -- position would read as zeros
  pub bit_forgotten : counted_at (volume_with false Free (Data data_state.IntendingToAllocate 0 file)) 64 2 0 ≡ None
  -- settling while root blocks do not agree: block 6 counts, but if the store of map 0 is torn, the root block
  -- that already holds 37 makes the bit look set
  pub counted_before : counted_at (saving false) 64 2 0 ≡ Some 6
  pub too_early : rebuilt (saving false) (roots_holding 37) 64 0 2 ≡ Root root_state.Allocated kind.Special true 5

-- the premises of the lost-map law hold of that save, before the bit and after it
pub record PremisesHold : Type 0 where
  pub fits_before : FitVolume (saving false) 2
  pub fits_after : FitVolume (saving true) 2
  pub single_before : SingleClaims (saving false) 64
  pub single_after : SingleClaims (saving true) 64
  pub agree_before : Agree (saving false) (roots_holding 6) 64
  pub agree_after : Agree (saving true) (roots_holding 37) 64
