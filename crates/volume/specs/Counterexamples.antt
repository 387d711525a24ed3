-- The lost-map law is false without any one of its premises: single claims, entries that fit, root blocks that agree.
--   claimed_twice    blocks 37 and 38 both count for position 0 of the file, and block 39 for position 1
--   past_the_last    block 37 counts for position 64 of the file
--   first_claims, no_claims   the root blocks that agree with each
--   GivenBackWith    losing a map changes nothing that a restart would show, with these premises
--   PremisesNeeded   what counts, and what counts by the entries that are given back: they differ
use Rattle.std.specs.Prelude.{◌≡◌, ℕ, ◌*◌, ◌<◌, true, false, cond, ◌∷◌, replicate, Some, None, ◌==◌}
use Rattle.map.specs.declared.entry.DataState.TheVariants as data_state
use Rattle.map.specs.declared.entry.Entry.TheVariants.{Free, Root, Data}
use Rattle.map.specs.declared.entry.RootState.TheVariants as root_state
use Rattle.map.specs.declared.kind.Kind.TheVariants as kind
use Rattle.volume.specs.Counting.{Entries, claims, counted_at}
use Rattle.volume.specs.Laws.{Same}
use Rattle.volume.specs.Rebuilding.{RootBlocks, rebuilt, FitVolume, SingleClaims, Agree}
use Rattle.volume.specs.Worked.{file, volume_with, saving, roots_with, roots_holding}

-- 37 is allocated; 38 and 39 are to be deallocated, and count, for the commit bit is not set
abbrev pub claimed_twice : Entries
claimed_twice a =
    cond (a == 38) (Data data_state.IntendingToDeallocate 0 file)
    (cond (a == 39) (Data data_state.IntendingToDeallocate 1 file) (volume_with false Free (Data data_state.Allocated 0 file) a))

abbrev pub past_the_last : Entries
past_the_last = volume_with false Free (Data data_state.Allocated 64 file)

-- the root block of the file holds 37 and 39
abbrev pub first_claims : RootBlocks
first_claims = roots_with (37 ∷ 39 ∷ replicate 62 0)

abbrev pub no_claims : RootBlocks
no_claims = roots_with (replicate 64 0)

abbrev pub GivenBackWith : (Entries → RootBlocks → ℕ → Type 0) → Type 0
GivenBackWith Premises = (E : Entries) (R : RootBlocks) (cylinders c : ℕ) → c < cylinders → Premises E R cylinders →
    Same (32 * cylinders) E (rebuilt E R (32 * cylinders) c)

pub record PremisesNeeded : Type 0 where
  -- without single claims: the entries fit, and the root blocks agree
  pub twice_fits : FitVolume claimed_twice 2
  pub twice_agrees : Agree claimed_twice first_claims 64
  pub twice_first : claims claimed_twice 2 0 37 ≡ true
  pub twice_second : claims claimed_twice 2 0 38 ≡ true
  -- map 0 is lost: block 38 looks given up already, so the commit bit is given back set, and block 39 counts no more
  pub twice_before : counted_at claimed_twice 64 2 1 ≡ Some 39
  pub twice_bit : rebuilt claimed_twice first_claims 64 0 2 ≡ Root root_state.Allocated kind.Special true 5
  pub twice_after : counted_at (rebuilt claimed_twice first_claims 64 0) 64 2 1 ≡ None
  pub without_single : GivenBackWith (λ E R cylinders. FitVolume E cylinders × Agree E R (32 * cylinders)) → ⊥
  -- without entries that fit: the claims are single, and the root blocks agree
  pub past_single : SingleClaims past_the_last 64
  pub past_agrees : Agree past_the_last no_claims 64
  -- map 1 is lost: no root block has a place for position 64, and block 37 is given back free
  pub past_before : counted_at past_the_last 64 2 64 ≡ Some 37
  pub past_entry : rebuilt past_the_last no_claims 64 1 37 ≡ Free
  pub past_after : counted_at (rebuilt past_the_last no_claims 64 1) 64 2 64 ≡ None
  pub without_fit : GivenBackWith (λ E R cylinders. SingleClaims E (32 * cylinders) × Agree E R (32 * cylinders)) → ⊥
  -- without agreement: before the bit of the worked save, with a root block that holds the new block already
  pub early_before : counted_at (saving false) 64 2 0 ≡ Some 6
  pub early_after : counted_at (rebuilt (saving false) (roots_holding 37) 64 0) 64 2 0 ≡ Some 37
  pub without_agreement : GivenBackWith (λ E R cylinders. FitVolume E cylinders × SingleClaims E (32 * cylinders)) → ⊥
