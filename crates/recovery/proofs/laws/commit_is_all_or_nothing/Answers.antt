use Rattle.recovery.proofs.Committing.{commit_plan_law}
use Rattle.recovery.proofs.laws.commit_is_all_or_nothing.Goals as goal

pub returns : goal.returns
returns c = commit_plan_law
