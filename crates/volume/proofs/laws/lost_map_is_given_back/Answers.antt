use Rattle.volume.proofs.LostMap.{lost_map_law}
use Rattle.volume.proofs.laws.lost_map_is_given_back.Goals as goal

pub returns : goal.returns
returns c = lost_map_law
