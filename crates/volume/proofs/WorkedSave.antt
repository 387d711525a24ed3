-- The premises of the lost-map law on the worked save, by tests that are computed.
use Rattle.std.proofs.Common.{true, false, refl}
use Rattle.volume.specs.Counting.{counted_addresses}
use Rattle.volume.specs.Search.{lowest, all}
use Rattle.volume.specs.Worked.{saving, roots_holding, PremisesHold}
use Rattle.volume.proofs.Tested.{named, fits_test, fits_from, alike, single_test, single_from, is_place, places_test, agree_from}

pub premises_hold : PremisesHold
unfolding all lowest fits_test named alike single_test places_test is_place counted_addresses
premises_hold = record {
  fits_before = fits_from (saving false) refl;
  fits_after = fits_from (saving true) refl;
  single_before = single_from (saving false) refl;
  single_after = single_from (saving true) refl;
  agree_before = agree_from (saving false) (roots_holding 6) refl refl refl refl refl refl refl refl refl;
  agree_after = agree_from (saving true) (roots_holding 37) refl refl refl refl refl refl refl refl refl;
}
