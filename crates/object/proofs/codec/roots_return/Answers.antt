use Rattle.object.proofs.RootLaws.{roots_return}
use Rattle.object.proofs.codec.roots_return.Goals as goal

pub returns : goal.returns
returns c = roots_return
