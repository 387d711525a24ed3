use Rattle.rebuild.proofs.OnVolume.{volume_law}
use Rattle.rebuild.proofs.laws.restart_goes_by_the_rebuilt_map.Goals as goal

pub returns : goal.returns
returns c = volume_law
