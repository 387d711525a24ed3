use Rattle.device.proofs.Skews.{permutes}
use Rattle.device.proofs.factor.Factor.place.Goals as goal

pub returns-clause-permutes : goal.returns-clause-permutes
returns-clause-permutes c = permutes c.args.self.k c.args.self.allowed
