use Rattle.allocation.proofs.Chosen.{chosen_law}
use Rattle.allocation.proofs.laws.chosen_address_will_do.Goals as goal

pub returns : goal.returns
returns c = chosen_law
