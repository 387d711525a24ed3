use Rattle.std.proofs.Common.{refl}
use Rattle.saving.specs.Procedure.{marker_block}
use Rattle.saving.proofs.procedure.marker_block.Goals as goal

pub returns : goal.returns
unfolding marker_block
returns c = refl
