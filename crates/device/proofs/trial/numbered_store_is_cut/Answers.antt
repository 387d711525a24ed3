use Rattle.device.proofs.Cuts.{numbered_store_is_cut}
use Rattle.device.proofs.trial.numbered_store_is_cut.Goals as goal

pub returns : goal.returns
returns c = numbered_store_is_cut
