-- The stores of one cylinder after those of the cylinders below it.
use Rattle.std.proofs.Common.{◌≡◌, ℕ, zero, suc, ◌+◌, ◌-◌, ◌*◌, ◌<◌, ◌≤◌, Bool, true, false, List, [], ◌∷◌, ◌++◌, take, drop, sym, refl, subst, add-one, arith}
use Rattle.device.specs.Blocks.{Block}
use Rattle.device.specs.PlanLaws.{cut_front, cut_back}
use Rattle.device.specs.Plans.{wrote, CutIn}
use Rattle.formatting.specs.Formatting.{root_write, format_writes, format_plan, FormatOrder}
use Rattle.journal.proofs.Carrying.{whole_then, went_planned}
use Rattle.journal.specs.Carried.{Whole, Went, planned}
use Rattle.map.specs.declared.identifier.Identifier.{Identifier}

module _ (index : Identifier) (c : ℕ) where
  -- the stores before that of a root block, and those after it
  root_turn : (s : ℕ) → 1 ≤ s → s < 5 → format_writes index c ≡ take (s - 1) (format_writes index c) ++ root_write index (32 * c + s) ∷ drop s (format_writes index c)
  root_turn zero low high = absurd (omega arith)
  root_turn (suc zero) low high = refl
  root_turn (suc (suc zero)) low high = refl
  root_turn (suc (suc (suc zero))) low high = refl
  root_turn (suc (suc (suc (suc zero)))) low high = refl
  root_turn (suc (suc (suc (suc (suc s))))) low high = absurd (omega arith)

  -- power fails at a root block
  pub root_cut : (a s : ℕ) (start mid end : List Block) → 1 ≤ s → s < 5 → a ≡ 32 * c + s → mid ≡ wrote start (take (s - 1) (format_writes index c)) →
      CutIn mid (root_write index a ∷ []) end → CutIn start (format_writes index c) end
  root_cut a s start mid end low high at stored cut =
      let w = root_write index (32 * c + s) in
      let p = take (s - 1) (format_writes index c) in
      let q = drop s (format_writes index c) in
      let here : CutIn mid (w ∷ []) end = subst (λ b. CutIn mid (root_write index b ∷ []) end) at cut in
      subst (λ plan. CutIn start plan end) (sym (root_turn s low high)) (cut_back start p (w ∷ q) end (subst (λ xs. CutIn xs (w ∷ q) end) stored (cut_front mid (w ∷ []) q end here)))

module _ (index : Identifier) (start now after : List Block) (lit lit' : Bool) (c m : ℕ) (below : Whole start (format_plan index c) m now lit) where
  -- one cylinder more
  pub cylinder_more : (after ≡ wrote now (format_writes index c)) × (lit ≡ true → lit' ≡ true) → Whole start (format_plan index (c + 1)) (m + 5) after lit'
  unfolding planned
  cylinder_more done = rw add-one (whole_then below (record { counted = refl; after = done.0; on = done.1 below.on }))

  -- power fails at a cylinder
  pub cylinder_cut : (cylinders : ℕ) → c < cylinders → CutIn now (format_writes index c) after × (lit' ≡ false) → Went start (format_plan index cylinders) after lit'
  cylinder_cut cylinders h gone = went_planned (format_writes index) c cylinders m h below (record { cut = gone.0; off = gone.1 })

pub format_order : FormatOrder
unfolding planned
format_order index = refl
