use Rattle.volume.proofs.Changing.{complete_kept, agree_kept}
use Rattle.volume.proofs.laws.stores_that_follow_one_another.Goals as goal

pub returns : goal.returns
returns c = record { complete = complete_kept; agree = agree_kept }
