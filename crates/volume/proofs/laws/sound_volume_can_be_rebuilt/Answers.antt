use Rattle.volume.proofs.Repeating.{lost_accepted}
use Rattle.volume.proofs.laws.sound_volume_can_be_rebuilt.Goals as goal

pub returns : goal.returns
returns c = lost_accepted
