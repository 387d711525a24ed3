-- What a change of one block or one mark does to the blocks seen through the marks.
use Rattle.std.proofs.Common.{◌≡◌, ℕ, zero, suc, ◌<◌, Bool, true, cond, eqb, List, [], ◌∷◌, length, Ok, Err, Result, get_or, set, vec_items, vec_len, refl, ap, ◌∙◌, arith}
use Rattle.std.proofs.lemmas.Bool.{true≢false, ne_eqb, eq-eqb}
use Rattle.device.specs.Blocks.{Block, block_at, Reads, Stores}
use Rattle.device.specs.ImageLaws.{image_size}
use Rattle.device.specs.Images.{image_blocks, overwritten, Overwrites}
use Rattle.device.specs.TrialLaws.{masked_size, masked_at}
use Rattle.device.specs.Trials.{masked, trial_blocks}
use Rattle.device.specs.declared.answers.ReadError.{ReadError}
use Rattle.device.specs.declared.answers.ReadError.TheVariants as reading
use Rattle.device.specs.declared.answers.StoreError.{StoreError}
use Rattle.device.specs.declared.answers.StoreError.TheVariants as storing
use Rattle.device.specs.declared.trial.Trial.{Trial}

pub masked_put : (blocks : List Block) (marks : List ℕ) (b : ℕ) (x : Block) → masked (set blocks b x) (set marks b 0) ≡ set (masked blocks marks) b x
unfolding masked
masked_put [] marks b x = refl
masked_put (y ∷ blocks) [] zero x = refl
masked_put (y ∷ blocks) [] (suc b) x = refl
masked_put (y ∷ blocks) (m ∷ marks) zero x = refl
masked_put (y ∷ blocks) (m ∷ marks) (suc b) x = ap (λ rest. cond (eqb m 0) y Block.unreadable ∷ rest) (masked_put blocks marks b x)

pub masked_lost : (blocks : List Block) (marks : List ℕ) (b : ℕ) → masked blocks (set marks b 1) ≡ set (masked blocks marks) b Block.unreadable
unfolding masked
masked_lost [] marks b = refl
masked_lost (y ∷ blocks) [] b = refl
masked_lost (y ∷ blocks) (m ∷ marks) zero = refl
masked_lost (y ∷ blocks) (m ∷ marks) (suc b) = ap (λ rest. cond (eqb m 0) y Block.unreadable ∷ rest) (masked_lost blocks marks b)

-- an address below the drive's size has a block and a mark
module _ (t : Trial) (b : ℕ) (within : b < length (trial_blocks t)) where
  pub has_mark : b < vec_len t.marks
  has_mark = let size = masked_size (image_blocks (vec_items t.image.bytes)) (vec_items t.marks) in omega (arith, t.marks.ok.0)

  pub has_block : b < length (image_blocks (vec_items t.image.bytes))
  has_block = let size = masked_size (image_blocks (vec_items t.image.bytes)) (vec_items t.marks) in omega arith

-- a store on the image within its size is done
pub stored_below : (blocks : List Block) (b : ℕ) (bytes : List ℕ) (r : Result (Unit {0}) StoreError) (blocks' : List Block) → b < length blocks → Stores blocks true b bytes r blocks' true → blocks' ≡ set blocks b (Block.readable bytes)
stored_below blocks b bytes (Err storing.Outside) blocks' h s = absurd (omega arith)
stored_below blocks b bytes (Err storing.Dark) blocks' h s = absurd (true≢false s.1)
stored_below blocks b bytes (Ok _) blocks' h s = s.3

pub overwrites_done : (bytes : List ℕ) (b : ℕ) (new : List ℕ) (r : Result (Unit {0}) StoreError) (bytes' : List ℕ) → b < length (image_blocks bytes) → Overwrites bytes b new r bytes' → bytes' ≡ overwritten bytes b new
overwrites_done bytes b new (Err storing.Outside) bytes' h s = absurd (omega (arith, image_size bytes))
overwrites_done bytes b new (Err storing.Dark) bytes' h s = absurd s
overwrites_done bytes b new (Ok _) bytes' h s = s.1

module _ (blocks : List Block) (marks : List ℕ) (b : ℕ) (within : b < length (masked blocks marks)) where
  marked_within : b < length marks
  marked_within = omega (arith, masked_size blocks marks)

  -- a mark other than 0 hides the block
  pub hidden : (get_or marks b 0 ≡ 0 → ⊥) → block_at (masked blocks marks) b ≡ Block.unreadable
  hidden ne = masked_at blocks marks b marked_within ∙ ap (λ t. cond t (block_at blocks b) Block.unreadable) (ne_eqb (get_or marks b 0) 0 ne)

  -- the mark 0 shows it
  pub showing : get_or marks b 0 ≡ 0 → block_at (masked blocks marks) b ≡ block_at blocks b
  showing e = masked_at blocks marks b marked_within ∙ ap (λ t. cond t (block_at blocks b) Block.unreadable) (eq-eqb (get_or marks b 0) 0 e)

  -- a read of the lit image, where the mark is 0, is a read of the lit drive
  pub read_through : (lit : Bool) (r : Result (Unit {0}) ReadError) (old new : List ℕ) → lit ≡ true → get_or marks b 0 ≡ 0 → Reads blocks true b r old new → Reads (masked blocks marks) lit b r old new
  read_through lit (Err reading.Outside) old new on e s = absurd (omega (arith, masked_size blocks marks))
  read_through lit (Err reading.Dark) old new on e s = absurd (true≢false s.1)
  read_through lit (Err reading.Unreadable) old new on e s = (within, on, showing e ∙ s.2, s.3)
  read_through lit (Ok _) old new on e s = (within, on, showing e ∙ s.2)
