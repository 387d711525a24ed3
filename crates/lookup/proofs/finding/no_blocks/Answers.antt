use Rattle.std.proofs.Common.{refl}
use Rattle.lookup.specs.Finding.{no_blocks}
use Rattle.lookup.proofs.finding.no_blocks.Goals as goal

pub returns : goal.returns
unfolding no_blocks
returns c = refl
