use Rattle.volume.proofs.Sameness.{intention_law}
use Rattle.volume.proofs.laws.intentions_keep_what_counts.Goals as goal

pub returns : goal.returns
returns c = intention_law
