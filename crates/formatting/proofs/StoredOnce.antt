-- Lists of stores that write at each address the bytes that are due there.
use Rattle.std.proofs.Common.{◌≡◌, ℕ, zero, suc, ◌<◌, ◌≢◌, ◌⊎◌, List, [], ◌∷◌, length, set, sym, ap, ◌∙◌, ap₂, ⊎_elim, arith}
use Rattle.std.proofs.lemmas.List.{length-set, get_or-set_same, get_or-set_other}
use Rattle.std.proofs.lemmas.Bool.{cases_eq}
use Rattle.device.specs.Blocks.{Block, block_at}
use Rattle.device.specs.PlanLaws.{wrote_append, wrote_length}
use Rattle.device.specs.Plans.{Write, wrote}
use Rattle.journal.specs.Carried.{planned}

-- one of the stores is at a
abbrev pub Reaches : ℕ → List Write → Type 0
Reaches a [] = ⊥
Reaches a (w ∷ plan) = (w.at ≡ a) ⊎ Reaches a plan

module _ (due : ℕ → List ℕ) where
  abbrev pub ByAddress : List Write → Type 0
  ByAddress [] = Unit {0}
  ByAddress (w ∷ plan) = (w.bytes ≡ due w.at) × ByAddress plan

  stored : (blocks : List Block) (w : Write) (a : ℕ) → a < length blocks → w.bytes ≡ due w.at → w.at ≡ a →
      block_at (set blocks w.at (Block.readable w.bytes)) a ≡ Block.readable (due a)
  stored blocks w a h by at =
      ap₂ (λ b x. block_at (set blocks b (Block.readable x)) a) at (by ∙ ap due at) ∙ get_or-set_same blocks a (Block.readable (due a)) Block.unreadable h

  -- what is there stays
  kept : (blocks : List Block) (plan : List Write) (a : ℕ) → a < length blocks → ByAddress plan → block_at blocks a ≡ Block.readable (due a) →
      block_at (wrote blocks plan) a ≡ Block.readable (due a)
  kept blocks [] a h by is = is
  kept blocks (w ∷ plan) a h by is =
      kept (set blocks w.at (Block.readable w.bytes)) plan a (rw length-set h) by.1
      (⊎_elim (λ (same : w.at ≡ a). stored blocks w a h by.0 same)
      (λ (ne : w.at ≢ a). get_or-set_other blocks w.at a (Block.readable w.bytes) Block.unreadable (λ e. ne (sym e)) ∙ is)
      (cases_eq w.at a))

  reached : (blocks : List Block) (plan : List Write) (a : ℕ) → a < length blocks → ByAddress plan → Reaches a plan → block_at (wrote blocks plan) a ≡ Block.readable (due a)
  reached blocks [] a h by there = absurd there
  reached blocks (w ∷ plan) a h by there =
      let next = set blocks w.at (Block.readable w.bytes) in
      let inside : a < length next = rw length-set h in
      ⊎_elim (λ at. kept next plan a inside by.1 (stored blocks w a h by.0 at)) (λ later. reached next plan a inside by.1 later) there

  -- the lists of the cylinders below n, one of which is at a
  pub planned_stored : (f : ℕ → List Write) (blocks : List Block) (n c a : ℕ) → ((d : ℕ) → ByAddress (f d)) → a < length blocks → c < n → Reaches a (f c) →
      block_at (wrote blocks (planned f n)) a ≡ Block.readable (due a)
  unfolding planned
  planned_stored f blocks zero c a by h below there = absurd (omega arith)
  planned_stored f blocks (suc n) c a by h below there =
      let mid = wrote blocks (planned f n) in
      let inside : a < length mid = rw wrote_length h in
      ap (λ xs. block_at xs a) (wrote_append blocks (planned f n) (f n))
      ∙ ⊎_elim (λ (same : c ≡ n). reached mid (f n) a inside (by n) (rw same at there))
      (λ ne. kept mid (f n) a inside (by n) (planned_stored f blocks n c a by h (omega arith) there))
      (cases_eq c n)
