use Rattle.volume.proofs.Committing.{commit_law}
use Rattle.volume.proofs.laws.commit_changes_one_object.Goals as goal

pub returns : goal.returns
returns c = commit_law
