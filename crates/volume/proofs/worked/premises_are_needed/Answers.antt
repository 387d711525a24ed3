use Rattle.volume.proofs.Counterexamples.{premises_needed}
use Rattle.volume.proofs.worked.premises_are_needed.Goals as goal

pub returns : goal.returns
returns c = premises_needed
