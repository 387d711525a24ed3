use Rattle.object.proofs.Entries.{entries_return}
use Rattle.object.proofs.index.index_entries_return.Goals as goal

pub returns : goal.returns
returns c = entries_return
