use Rattle.recovery.proofs.Staging.{stage_law}
use Rattle.recovery.proofs.laws.staging_changes_nothing.Goals as goal

pub returns : goal.returns
returns c = stage_law
