use Rattle.volume.proofs.Committing.{removal_law}
use Rattle.volume.proofs.laws.removal_removes_one_object.Goals as goal

pub returns : goal.returns
returns c = removal_law
