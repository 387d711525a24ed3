-- The counterexamples to the lost-map law without its premises, computed.
use Rattle.std.proofs.Common.{◌≡◌, ℕ, false, Some, None, Option, sym, refl, ◌∙◌, arith, lit<}
use Rattle.std.proofs.lemmas.Bool.{true≢false}
use Rattle.map.specs.declared.entry.Entry.TheVariants.{Free}
use Rattle.volume.specs.Counterexamples.{claimed_twice, past_the_last, first_claims, no_claims, PremisesNeeded}
use Rattle.volume.specs.Counting.{counted_at, counted_addresses}
use Rattle.volume.specs.Rebuilding.{rebuilt, FitVolume, SingleClaims, Agree}
use Rattle.volume.specs.Search.{lowest, any, all}
use Rattle.volume.specs.Worked.{saving, roots_holding}
use Rattle.volume.proofs.Tested.{named, fits_test, fits_from, alike, single_test, single_from, is_place, places_test, agree_from}
use Rattle.volume.proofs.WorkedSave.{premises_hold}

twice_fits : FitVolume claimed_twice 2
unfolding all fits_test named
twice_fits = fits_from claimed_twice refl

twice_agrees : Agree claimed_twice first_claims 64
unfolding all lowest places_test is_place counted_addresses
twice_agrees = agree_from claimed_twice first_claims refl refl refl refl refl refl refl refl refl

twice_before : counted_at claimed_twice 64 2 1 ≡ Some 39
unfolding lowest
twice_before = refl

twice_after : counted_at (rebuilt claimed_twice first_claims 64 0) 64 2 1 ≡ None
unfolding lowest any
twice_after = refl

past_single : SingleClaims past_the_last 64
unfolding all alike single_test
past_single = single_from past_the_last refl

past_agrees : Agree past_the_last no_claims 64
unfolding all lowest places_test is_place counted_addresses
past_agrees = agree_from past_the_last no_claims refl refl refl refl refl refl refl refl refl

past_before : counted_at past_the_last 64 2 64 ≡ Some 37
unfolding lowest
past_before = refl

past_entry : rebuilt past_the_last no_claims 64 1 37 ≡ Free
unfolding lowest
past_entry = refl

past_after : counted_at (rebuilt past_the_last no_claims 64 1) 64 2 64 ≡ None
unfolding lowest any
past_after = refl

early_before : counted_at (saving false) 64 2 0 ≡ Some 6
unfolding lowest
early_before = refl

early_after : counted_at (rebuilt (saving false) (roots_holding 37) 64 0) 64 2 0 ≡ Some 37
unfolding lowest any
early_after = refl

lost : (b : ℕ) → None ≡ Some b → ⊥
lost b e = true≢false cc

mixed : ◌≡◌ {A = Option ℕ} (Some 37) (Some 6) → ⊥
mixed e = let z : ◌≡◌ {A = ℕ} 37 6 = cc in omega arith

pub premises_needed : PremisesNeeded
unfolding any
premises_needed = record {
  twice_fits = twice_fits;
  twice_agrees = twice_agrees;
  twice_first = refl;
  twice_second = refl;
  twice_before = twice_before;
  twice_bit = refl;
  twice_after = twice_after;
  without_single = λ law. lost 39 (sym twice_after ∙ (law claimed_twice first_claims 2 0 (lit< tt) (twice_fits, twice_agrees)).counted 2 1 ∙ twice_before);
  past_single = past_single;
  past_agrees = past_agrees;
  past_before = past_before;
  past_entry = past_entry;
  past_after = past_after;
  without_fit = λ law. lost 37 (sym past_after ∙ (law past_the_last no_claims 2 1 (lit< tt) (past_single, past_agrees)).counted 2 64 ∙ past_before);
  early_before = early_before;
  early_after = early_after;
  without_agreement = λ law.
      mixed (sym early_after ∙ (law (saving false) (roots_holding 37) 2 0 (lit< tt) (premises_hold.fits_before, premises_hold.single_before)).counted 2 0 ∙ early_before);
}
