use Rattle.recovery.proofs.WorkedRequests.{requests_met}
use Rattle.recovery.proofs.worked.requests_can_be_made.Goals as goal

pub returns : goal.returns
returns c = requests_met
