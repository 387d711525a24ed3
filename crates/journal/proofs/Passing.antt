-- What a pass over the maps stores, cylinder by cylinder.
use Rattle.std.proofs.Common.{◌≡◌, ℕ, zero, suc, ◌+◌, ◌*◌, ◌/◌, ◌<◌, ◌≤◌, Bool, ◌≢◌, List, [], length, Some, None, Option, refl, ap, ◌∙◌, subst, ap₂, add-one, arith}
use Rattle.std.proofs.lemmas.List.{get_or-set_other, get_or_past}
use Rattle.device.specs.Blocks.{Block, block_at}
use Rattle.device.specs.PlanLaws.{wrote_append, wrote_length}
use Rattle.device.specs.Plans.{wrote}
use Rattle.map.specs.Maps.{encoded_map}
use Rattle.map.specs.declared.entry.Entry.{Entry}
use Rattle.journal.specs.Carried.{Ready, Whole, Went, planned}
use Rattle.journal.proofs.Carrying.{whole_then, went_planned}
use Rattle.journal.specs.Passes.{Rule, pass_write, ruled, pass_writes}
use Rattle.volume.specs.Volume.{cylinders_of, map_in, map_at}

-- a store at the map of another cylinder
other_map : (blocks : List Block) (c d : ℕ) (o : Option (List Entry)) → c ≢ d → block_at (wrote blocks (pass_write c o)) (32 * d) ≡ block_at blocks (32 * d)
other_map blocks c d None ne = refl
other_map blocks c d (Some entries) ne = get_or-set_other blocks (32 * c) (32 * d) (Block.readable (encoded_map c entries)) Block.unreadable (λ e. ne (omega arith))

module _ (rule : Rule) (blocks : List Block) where
  -- the stores of lower cylinders leave a cylinder's map
  planned_other : (c d : ℕ) → c ≤ d → block_at (wrote blocks (planned (pass_writes rule blocks) c)) (32 * d) ≡ block_at blocks (32 * d)
  unfolding planned
  planned_other zero d h = refl
  planned_other (suc c) d h =
      ap (λ xs. block_at xs (32 * d)) (wrote_append blocks (planned (pass_writes rule blocks) c) (pass_writes rule blocks c))
      ∙ other_map (wrote blocks (planned (pass_writes rule blocks) c)) c d (ruled rule c (map_at blocks c)) (λ e. omega arith)
      ∙ planned_other c d (omega arith)

  -- so each cylinder's stores are the same from the start as when its turn comes
  pub same_writes : (c : ℕ) (now : List Block) → now ≡ wrote blocks (planned (pass_writes rule blocks) c) → pass_writes rule now c ≡ pass_writes rule blocks c
  same_writes c now is =
      let cylinders : cylinders_of now ≡ cylinders_of blocks = ap (λ n. n / 32) (ap length is ∙ wrote_length blocks (planned (pass_writes rule blocks) c)) in
      let block : block_at now (32 * c) ≡ block_at blocks (32 * c) = ap (λ xs. block_at xs (32 * c)) is ∙ planned_other c c (omega arith) in
      ap₂ (λ n b. pass_write c (ruled rule c (map_in n c b))) cylinders block

  -- one cylinder more
  pub pass_more : (c m n : ℕ) (now after : List Block) (lit_now lit_after : Bool) → Whole blocks (planned (pass_writes rule blocks) c) m now lit_now →
      Whole now (pass_writes rule now c) n after lit_after → Whole blocks (planned (pass_writes rule blocks) (c + 1)) (m + n) after lit_after
  unfolding planned
  pass_more c m n now after lit_now lit_after first second =
      rw add-one (whole_then first (subst (λ plan. Whole now plan n after lit_after) (same_writes c now first.after) second))

  -- power fails at a cylinder
  pub pass_cut : (c m cylinders : ℕ) (now after : List Block) (lit_now lit_after : Bool) → c < cylinders → Whole blocks (planned (pass_writes rule blocks) c) m now lit_now →
      Went now (pass_writes rule now c) after lit_after → Went blocks (planned (pass_writes rule blocks) cylinders) after lit_after
  pass_cut c m cylinders now after lit_now lit_after h first second =
      went_planned (pass_writes rule blocks) c cylinders m h first (subst (λ plan. Went now plan after lit_after) (same_writes c now first.after) second)

  -- a cylinder past the last has no map
  pub past_writes : (lit : Bool) (d : ℕ) → Ready blocks lit (cylinders_of blocks) → cylinders_of blocks ≤ d → pass_writes rule blocks d ≡ []
  past_writes lit d ready h =
      ap (λ b. pass_write d (ruled rule d (map_in (cylinders_of blocks) d b))) (get_or_past blocks (32 * d) Block.unreadable (omega (arith, ready.long)))
