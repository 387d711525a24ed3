use Rattle.volume.proofs.Sameness.{clearing_law}
use Rattle.volume.proofs.laws.clearing_keeps_what_counts.Goals as goal

pub returns : goal.returns
returns c = clearing_law
