use Rattle.volume.proofs.Stores.{root_block_law}
use Rattle.volume.proofs.laws.root_store_changes_nothing.Goals as goal

pub returns : goal.returns
returns c = root_block_law
