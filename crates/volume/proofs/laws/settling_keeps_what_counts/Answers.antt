use Rattle.volume.proofs.Sameness.{settling_law}
use Rattle.volume.proofs.laws.settling_keeps_what_counts.Goals as goal

pub returns : goal.returns
returns c = settling_law
