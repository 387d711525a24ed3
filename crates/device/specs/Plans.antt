-- Lists of stores: what a device holds after one, and after power failed inside one.
--   Write   one store: the address and the bytes
--   wrote   the blocks after every store of a list, in order
--   CutIn   power failed inside the list: a first part of it is done, and the store after that is
--           left old, new or unreadable
--   Runs    a list of stores was carried out, or power failed inside it
use Rattle.std.specs.Prelude.{◌≡◌, ℕ, Bool, true, false, ◌⊎◌, List, [], ◌∷◌, Ok, Err, Result, slice_set}
use Rattle.device.specs.Blocks.{Block, left_by}
use Rattle.device.specs.declared.answers.Manner.{Manner}

pub record Write : Type 0 where
  pub at : ℕ
  pub bytes : List ℕ

abbrev pub write : ℕ → List ℕ → Write
write at bytes = record { at = at; bytes = bytes }

abbrev pub wrote : List Block → List Write → List Block
wrote blocks [] = blocks
wrote blocks (w ∷ plan) = wrote (slice_set blocks w.at (Block.readable w.bytes)) plan

abbrev pub CutIn : List Block → List Write → List Block → Type 0
CutIn blocks [] after = ⊥
CutIn blocks (w ∷ plan) after =
    ((m : Manner) × (after ≡ left_by m blocks w.at w.bytes))
    ⊎ CutIn (slice_set blocks w.at (Block.readable w.bytes)) plan after

-- blocks and power before it, the list, how it ended, blocks and power after it
abbrev pub Runs : {A E : Type 0} → List Block → Bool → List Write → Result A E → List Block → Bool → Type 0
Runs blocks lit plan (Ok _) blocks' lit' = (blocks' ≡ wrote blocks plan) × (lit ≡ true → lit' ≡ true)
Runs blocks lit plan (Err _) blocks' lit' = CutIn blocks plan blocks' × (lit' ≡ false)
