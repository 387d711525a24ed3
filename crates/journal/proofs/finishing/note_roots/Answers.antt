use Rattle.journal.proofs.RootTable.{noted_at_once}
use Rattle.journal.proofs.finishing.note_roots.Goals as goal

pub returns-then-first-lt256 : goal.returns-then-first-lt256
returns-then-first-lt256 c few =
    noted_at_once c.args.table.now c.args.entries.now c.args.cylinder c.told-table c.told-entries few c.copy_from_slice.new.self c.from-first.result c.from-first.ensures c.copy_from_slice.ensures.after
