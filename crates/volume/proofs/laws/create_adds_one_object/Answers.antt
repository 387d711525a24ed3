use Rattle.volume.proofs.Committing.{create_law}
use Rattle.volume.proofs.laws.create_adds_one_object.Goals as goal

pub returns : goal.returns
returns c = create_law
