use Rattle.rebuild.proofs.Rebuilt.{rebuild_law}
use Rattle.rebuild.proofs.laws.rebuilt_map_is_given_back.Goals as goal

pub returns : goal.returns
returns c = rebuild_law
