use Rattle.formatting.proofs.EmptyVolume.{format_law}
use Rattle.formatting.proofs.laws.format_makes_an_empty_volume.Goals as goal

pub returns : goal.returns
returns c = format_law
