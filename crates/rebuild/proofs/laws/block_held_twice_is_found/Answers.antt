use Rattle.rebuild.proofs.Twice.{twice_law, lowest_law}
use Rattle.rebuild.proofs.laws.block_held_twice_is_found.Goals as goal

pub returns : goal.returns
returns c = record { twice = twice_law; lowest = lowest_law }
