use Rattle.volume.proofs.Repeating.{once}
use Rattle.volume.proofs.laws.twice_is_once.Goals as goal

pub returns : goal.returns
returns c = once
