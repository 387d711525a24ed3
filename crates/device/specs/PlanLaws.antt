-- What holds of one list of stores after another.
use Rattle.std.specs.Prelude.{◌≡◌, ℕ, Bool, true, false, ◌⊎◌, List, [], ◌∷◌, ◌++◌, length, is_ok, Ok, Err, MatchBool, Result, slice_set, refl}
use Rattle.std.proofs.Common.{sym, ap, subst, ◌∙◌, inl, inr, ⊎_elim, length-set}
use Rattle.std.proofs.lemmas.Bool.{true≢false, false≢true}
use Rattle.device.specs.Blocks.{Block, left_by}
use Rattle.device.specs.declared.answers.Manner.{Manner}
use Rattle.device.specs.declared.answers.Manner.TheVariants as manner
use Rattle.device.specs.Plans.{Write, wrote, CutIn, Runs}

pub wrote_append : (blocks : List Block) (p q : List Write) → wrote blocks (p ++ q) ≡ wrote (wrote blocks p) q
wrote_append blocks [] q = refl
wrote_append blocks (w ∷ p) q = wrote_append (slice_set blocks w.at (Block.readable w.bytes)) p q

-- no store changes the number of blocks
pub wrote_length : (blocks : List Block) (p : List Write) → length (wrote blocks p) ≡ length blocks
wrote_length blocks [] = refl
wrote_length blocks (w ∷ p) = wrote_length (slice_set blocks w.at (Block.readable w.bytes)) p ∙ length-set blocks w.at (Block.readable w.bytes)

-- power that fails inside a list fails inside each longer one
pub cut_front : (blocks : List Block) (p q : List Write) (after : List Block) → CutIn blocks p after → CutIn blocks (p ++ q) after
cut_front blocks [] q after h = absurd h
cut_front blocks (w ∷ p) q after h = ⊎_elim inl (λ later. inr (cut_front (slice_set blocks w.at (Block.readable w.bytes)) p q after later)) h

pub cut_back : (blocks : List Block) (p q : List Write) (after : List Block) → CutIn (wrote blocks p) q after → CutIn blocks (p ++ q) after
cut_back blocks [] q after h = h
cut_back blocks (w ∷ p) q after h = inr (cut_back (slice_set blocks w.at (Block.readable w.bytes)) p q after h)

-- power that fails inside two lists fails inside the first, or inside the second once the first is carried out
pub cut_either : (blocks : List Block) (p q : List Write) (after : List Block) → CutIn blocks (p ++ q) after → CutIn blocks p after ⊎ CutIn (wrote blocks p) q after
cut_either blocks [] q after h = inr h
cut_either blocks (w ∷ p) q after h =
    ⊎_elim (λ here. inl (inl here))
    (λ later. ⊎_elim (λ first. inl (inr first)) inr (cut_either (slice_set blocks w.at (Block.readable w.bytes)) p q after later))
    h

-- one list is carried out, and the next one ends as it ends
pub runs_on : {A E : Type 0} (blocks mid after : List Block) (lit lit_mid lit_after : Bool) (p q : List Write) (r : Result A E) →
    mid ≡ wrote blocks p → (lit ≡ true → lit_mid ≡ true) → Runs mid lit_mid q r after lit_after → Runs blocks lit (p ++ q) r after lit_after
runs_on blocks mid after lit lit_mid lit_after p q (Ok x) e on s =
    (s.0 ∙ ap (λ xs. wrote xs q) e ∙ sym (wrote_append blocks p q), λ h. s.1 (on h))
runs_on blocks mid after lit lit_mid lit_after p q (Err x) e on s =
    (cut_back blocks p q after (subst (λ xs. CutIn xs q after) e s.0), s.1)

left_length : (m : Manner) (blocks : List Block) (b : ℕ) (bytes : List ℕ) → length (left_by m blocks b bytes) ≡ length blocks
left_length manner.Old blocks b bytes = refl
left_length manner.New blocks b bytes = length-set blocks b (Block.readable bytes)
left_length manner.Unreadable blocks b bytes = length-set blocks b Block.unreadable

pub cut_length : (blocks : List Block) (p : List Write) (after : List Block) → CutIn blocks p after → length after ≡ length blocks
cut_length blocks [] after h = absurd h
cut_length blocks (w ∷ p) after h =
    ⊎_elim
    (λ here. ap length here.1 ∙ left_length here.0 blocks w.at w.bytes)
    (λ later. cut_length (slice_set blocks w.at (Block.readable w.bytes)) p after later ∙ length-set blocks w.at (Block.readable w.bytes))
    h

-- what a list of stores leaves, by how it ended
module _ {A E : Type 0} (blocks : List Block) (lit : Bool) (plan : List Write) (after : List Block) (lit' : Bool) where
  pub runs_whole : (r : Result A E) → is_ok r ≡ true → Runs blocks lit plan r after lit' → (after ≡ wrote blocks plan) × (lit ≡ true → lit' ≡ true)
  runs_whole (Ok x) e s = s
  runs_whole (Err x) e s = absurd (false≢true e)

  pub runs_cut : (r : Result A E) → is_ok r ≡ false → Runs blocks lit plan r after lit' → CutIn blocks plan after × (lit' ≡ false)
  runs_cut (Ok x) e s = absurd (true≢false e)
  runs_cut (Err x) e s = s

  pub runs_ended : (r : Result A E) → Runs blocks lit plan r after lit' → MatchBool (is_ok r) (after ≡ wrote blocks plan) (CutIn blocks plan after)
  runs_ended (Ok x) s = s.0
  runs_ended (Err x) s = s.0

  pub runs_length : (r : Result A E) → Runs blocks lit plan r after lit' → length after ≡ length blocks
  runs_length (Ok x) s = ap length s.0 ∙ wrote_length blocks plan
  runs_length (Err x) s = cut_length blocks plan after s.0
