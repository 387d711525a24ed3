use Rattle.formatting.proofs.Cylinders.{format_order}
use Rattle.formatting.proofs.laws.format_stores_maps_last.Goals as goal

pub returns : goal.returns
returns c = format_order
