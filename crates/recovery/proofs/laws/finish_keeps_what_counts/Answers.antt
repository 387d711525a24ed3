use Rattle.recovery.proofs.Finishing.{finish_law}
use Rattle.recovery.proofs.laws.finish_keeps_what_counts.Goals as goal

pub returns : goal.returns
returns c = finish_law
