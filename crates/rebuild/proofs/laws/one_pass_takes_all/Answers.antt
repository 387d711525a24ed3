use Rattle.rebuild.proofs.Passing.{pass_law}
use Rattle.rebuild.proofs.laws.one_pass_takes_all.Goals as goal

pub returns : goal.returns
returns c = pass_law
