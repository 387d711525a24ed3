use Rattle.recovery.proofs.Creating.{create_plan_law}
use Rattle.recovery.proofs.laws.create_is_all_or_nothing.Goals as goal

pub returns : goal.returns
returns c = create_plan_law
