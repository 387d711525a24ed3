use Rattle.volume.proofs.Preparing.{written_map_law, no_position_law, left_alone, root_store_law}
use Rattle.volume.proofs.laws.what_goes_before_a_changing_store.Goals as goal

pub returns : goal.returns
returns c = record { map = written_map_law; positions = no_position_law; alone = left_alone; root = root_store_law }
