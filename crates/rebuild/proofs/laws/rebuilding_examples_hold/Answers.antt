use Rattle.std.proofs.Common.{refl}
use Rattle.volume.specs.Search.{lowest}
use Rattle.rebuild.specs.Noting.{places_to, noted_to}
use Rattle.rebuild.specs.Taking.{held_from, twice_from, taken_to, twice_to}
use Rattle.rebuild.proofs.laws.rebuilding_examples_hold.Goals as goal

pub returns : goal.returns
unfolding lowest places_to noted_to held_from twice_from taken_to twice_to
returns c = record { noted = refl; not_noted = refl; not_performed = refl; held = refl; free = refl; once = refl; twice = refl }
