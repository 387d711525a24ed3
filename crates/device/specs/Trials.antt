-- The trial drive: what it holds, which cut is armed, and exactly what a store and a light do.
--   masked        the blocks whose mark is 0; the others cannot be read
--   trial_blocks  what the drive holds
--   armed_cut     the cut that waits, or the one that never happens
--   hit           whether the next store that passes the tests is the one to be cut
--   Made, TrialStores, TrialLights   a new drive; exactly what a store does; what a light does
use Rattle.std.specs.Prelude.{◌≡◌, ℕ, ◌+◌, ◌<◌, ◌≤◌, Bool, true, false, cond, List, [], ◌∷◌, length, Ok, Err, Result, vec_items, ◌==◌, nat_lt, slice_index_or, slice_set}
use Rattle.device.specs.Blocks.{Block, left_by}
use Rattle.device.specs.Images.{image_blocks, overwritten}
use Rattle.device.specs.declared.answers.StoreError.{StoreError}
use Rattle.device.specs.declared.answers.StoreError.TheVariants as storing
use Rattle.device.specs.declared.answers.Manner.{Manner}
use Rattle.device.specs.declared.answers.Manner.TheVariants as manner
use Rattle.device.specs.declared.cut.Cut.{Cut}
use Rattle.device.specs.declared.trial.Trial.{Trial}

-- as many as there are both blocks and marks
unfoldable pub masked : List Block → List ℕ → List Block
masked [] marks = []
masked (x ∷ blocks) [] = []
masked (x ∷ blocks) (m ∷ marks) = cond (m == 0) x Block.unreadable ∷ masked blocks marks

abbrev pub trial_blocks : Trial → List Block
trial_blocks t = masked (image_blocks (vec_items t.image.bytes)) (vec_items t.marks)

abbrev pub never : Cut
never = record { at = 0; manner = manner.Old }

abbrev pub armed_cut : Trial → Cut
armed_cut t = slice_index_or t.cuts t.armed never

-- the next store that passes the tests bears the armed cut's number
abbrev pub hit : Trial → Bool
hit t = t.stored + 1 == (armed_cut t).at

-- one store more is counted while the armed cut is still to come
abbrev pub count_on : Trial → ℕ
count_on t = cond (nat_lt t.stored (armed_cut t).at) (t.stored + 1) t.stored

-- between two drives only blocks and marks differ, and the count and power as given
pub record Others (t : Trial) (n : ℕ) (on : Bool) (t' : Trial) : Type 0 where
  pub planned : t'.cuts ≡ t.cuts
  pub armed : t'.armed ≡ t.armed
  pub stored : t'.stored ≡ n
  pub powered : t'.lit ≡ on

-- a new drive: these bytes and marks, lit, the first cut armed, no store counted
pub record Made (bytes marks : List ℕ) (cuts : List Cut) (t : Trial) : Type 0 where
  pub held : vec_items t.image.bytes ≡ bytes
  pub marked : vec_items t.marks ≡ marks
  pub planned : t.cuts ≡ cuts
  pub first : t.armed ≡ 0
  pub afresh : t.stored ≡ 0
  pub powered : t.lit ≡ true

-- the bytes below the marks and the marks: after a store that is done, after one that is cut
abbrev pub Contents : Type 0
Contents = List ℕ × List ℕ

abbrev pub contents : Trial → Contents
contents t = (vec_items t.image.bytes, vec_items t.marks)

abbrev pub filled : Contents → ℕ → List ℕ → Contents
filled held b bytes = (overwritten held.0 b bytes, slice_set held.1 b 0)

abbrev pub cut_contents : Manner → Contents → ℕ → List ℕ → Contents
cut_contents manner.Old held b bytes = held
cut_contents manner.New held b bytes = filled held b bytes
cut_contents manner.Unreadable held b bytes = (held.0, slice_set held.1 b 1)

-- exactly what a store of `bytes` at b answers and leaves
pub record TrialStores (t : Trial) (b : ℕ) (bytes : List ℕ) (r : Result (Unit {0}) StoreError) (t' : Trial) : Type 0 where
  pub outside : length (trial_blocks t) ≤ b → (r ≡ Err storing.Outside) × (t' ≡ t)
  pub dark : b < length (trial_blocks t) → t.lit ≡ false → (r ≡ Err storing.Dark) × (t' ≡ t)
  pub cut : b < length (trial_blocks t) → t.lit ≡ true → hit t ≡ true →
      (r ≡ Err storing.Dark) × (trial_blocks t' ≡ left_by (armed_cut t).manner (trial_blocks t) b bytes)
      × (contents t' ≡ cut_contents (armed_cut t).manner (contents t) b bytes) × Others t (count_on t) false t'
  pub done : b < length (trial_blocks t) → t.lit ≡ true → hit t ≡ false →
      (r ≡ Ok tt) × (trial_blocks t' ≡ slice_set (trial_blocks t) b (Block.readable bytes))
      × (contents t' ≡ filled (contents t) b bytes) × Others t (count_on t) true t'

-- a light: no block changes, the next cut is armed, or none, and stores are counted afresh
pub record TrialLights (t t' : Trial) : Type 0 where
  pub same : trial_blocks t' ≡ trial_blocks t
  pub kept : contents t' ≡ contents t
  pub powered : t'.lit ≡ true
  pub planned : t'.cuts ≡ t.cuts
  pub next : t'.armed ≡ cond (nat_lt t.armed 8) (t.armed + 1) t.armed
  pub afresh : t'.stored ≡ 0

-- j stores in a row that passed the tests and were done
pub data DoneInARow : Trial → ℕ → Trial → Type 0 where
  none : {t : Trial} → DoneInARow t 0 t
  more : {t u v : Trial} {j b : ℕ} {bytes : List ℕ} → DoneInARow t j u → b < length (trial_blocks u) → u.lit ≡ true →
      TrialStores u b bytes (Ok tt) v → DoneInARow t (j + 1) v

-- counting from a light, the store that is cut is the one that bears the armed cut's number, and no other
abbrev pub NumberedStoreIsCut : Type 0
NumberedStoreIsCut = (t u : Trial) (j : ℕ) → t.stored ≡ 0 → DoneInARow t j u → hit u ≡ (j + 1 == (armed_cut t).at)
