use Rattle.saving.proofs.Jobs.{same_parts}
use Rattle.saving.proofs.job.Job.same.Goals as goal

pub returns : goal.returns
returns c = same_parts c.args.self.now.parts c.args.other.now.parts c.eq.result c.eq.ensures
