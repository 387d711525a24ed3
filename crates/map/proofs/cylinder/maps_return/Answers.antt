use Rattle.map.specs.MapLaws.{map_bytes_return, map_entries_return}
use Rattle.map.proofs.cylinder.maps_return.Goals as goal

pub returns : goal.returns
returns c = record { bytes = map_bytes_return; entries = map_entries_return }
