use Rattle.volume.proofs.RestingVolume.{block_premises}
use Rattle.volume.proofs.WorkedVolume.{entry_premises}
use Rattle.volume.proofs.worked.premises_can_be_met.Goals as goal

pub returns : goal.returns
returns c = record { entries = entry_premises; blocks = block_premises }
