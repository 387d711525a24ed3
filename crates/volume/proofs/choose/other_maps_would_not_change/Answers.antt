use Rattle.volume.proofs.Choosing.{choosing_law}
use Rattle.volume.proofs.choose.other_maps_would_not_change.Goals as goal

pub returns : goal.returns
returns c = choosing_law
