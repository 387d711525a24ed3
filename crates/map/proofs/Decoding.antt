-- A map that is decoded sector by sector.
--   DecodedBelow   the entries of the sectors below s are those of the block
use Rattle.std.proofs.Common.{◌≡◌, ℕ, ◌+◌, ◌<◌, ◌≤◌, ◌≢◌, List, length, get_or, set, Some, None, sym, ap, ◌∙◌, arith, below_more}
use Rattle.std.proofs.lemmas.List.{length-set, get_or-set_same, get_or-set_other}
use Rattle.device.specs.Gathers.{gathered, gathered_all, gathered_none}
use Rattle.map.specs.Maps.{decoded_sector, decoded_map}
use Rattle.map.specs.declared.entry.Entry.{Entry}
use Rattle.map.specs.declared.entry.Entry.TheVariants.{Map}

unfoldable pub DecodedBelow : ℕ → ℕ → List ℕ → ℕ → List Entry → Type 0
DecodedBelow cylinders c block s entries = (k : ℕ) → k < s → decoded_sector cylinders c block k ≡ Some (get_or entries k Map)

module _ (cylinders c : ℕ) (block : List ℕ) where
  pub none_yet : (entries : List Entry) → DecodedBelow cylinders c block 0 entries
  unfolding DecodedBelow
  none_yet entries k h = absurd (omega arith)

  pub one_more : (s : ℕ) (entries : List Entry) (new : Entry) → s < 32 → length entries ≡ 32 → DecodedBelow cylinders c block s entries → decoded_sector cylinders c block s ≡ Some new →
      DecodedBelow cylinders c block (s + 1) (set entries s new)
  unfolding DecodedBelow
  one_more s entries new h long each here =
      let at = decoded_sector cylinders c block in
      let within : s < length entries = omega (arith, long) in
      below_more (λ k. at k ≡ Some (get_or (set entries s new) k Map)) s
      (λ k h. let ne : k ≢ s = omega arith in each k h ∙ ap Some (sym (get_or-set_other entries s k new Map ne)))
      (here ∙ ap Some (sym (get_or-set_same entries s new Map within)))

  pub one_lost : (s : ℕ) → s < 32 → decoded_sector cylinders c block s ≡ None → decoded_map cylinders c block ≡ None
  one_lost s h lost = let at = decoded_sector cylinders c block in gathered_none at 32 0 s h (ap at (omega arith) ∙ lost)

  pub all_there : (s : ℕ) (entries : List Entry) → 32 ≤ s → length entries ≡ 32 → DecodedBelow cylinders c block s entries → decoded_map cylinders c block ≡ Some entries
  unfolding DecodedBelow
  all_there s entries end long each =
      let at = decoded_sector cylinders c block in
      ap (gathered at 0) (sym long) ∙ gathered_all at Map entries 0 (λ k h. ap at (omega arith) ∙ each k (omega (arith, long)))

-- what each goal of the decoding needs
pub ruleset decoding = (none_yet, one_more, one_lost, all_there, length-set)
