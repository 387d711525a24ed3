use Rattle.volume.proofs.ClaimTable.{table_law}
use Rattle.volume.proofs.claims.claims_are_the_lowest.Goals as goal

pub returns : goal.returns
returns c = table_law
