use Rattle.volume.proofs.Stores.{data_block_law, free_block_law}
use Rattle.volume.proofs.laws.data_store_changes_one_block.Goals as goal

pub returns : goal.returns
returns c = record { counts = data_block_law; free = free_block_law }
