use Rattle.store.proofs.indexing.EntryChange.commit.Goals as goal

pub returns : goal.returns
returns g c ready = rw (← c.table.ensures) (c.commit_rows.ensures ready)
