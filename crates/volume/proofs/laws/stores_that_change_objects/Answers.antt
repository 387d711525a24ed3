use Rattle.volume.proofs.Changing.{bit_store_law, removal_store_law, create_store_law}
use Rattle.volume.proofs.InPlace.{in_place_law}
use Rattle.volume.proofs.laws.stores_that_change_objects.Goals as goal

pub returns : goal.returns
returns c = record { commit = bit_store_law; removal = removal_store_law; create = create_store_law; written = in_place_law }
