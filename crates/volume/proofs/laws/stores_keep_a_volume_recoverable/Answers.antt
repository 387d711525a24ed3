use Rattle.volume.proofs.Recoverable.{kept_by_stores}
use Rattle.volume.proofs.laws.stores_keep_a_volume_recoverable.Goals as goal

pub returns : goal.returns
returns c = kept_by_stores
