use Rattle.volume.proofs.MapStores.{map_store_law, torn_map_law}
use Rattle.volume.proofs.laws.map_store_is_whole_or_harmless.Goals as goal

pub returns : goal.returns
returns c = record { whole = map_store_law; torn = torn_map_law }
