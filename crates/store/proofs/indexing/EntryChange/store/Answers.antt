use Rattle.std.proofs.lemmas.Result.{err_from_is_err_and}
use Rattle.device.specs.Plans.{wrote}
use Rattle.journal.proofs.Carrying.{still_ready, whole_next, cut_next, cut_longer}
use Rattle.journal.specs.Committing.{followed}
use Rattle.journal.specs.Finishing.{finish_plan}
use Rattle.store.specs.Indexing.{entry_rows}
use Rattle.store.specs.Transactions.{rows_plan}
use Rattle.store.proofs.indexing.EntryChange.store.Goals as goal

pub returns-in_err-commit : goal.returns-in_err-commit
returns-in_err-commit g c ready =
    let change = c.args.self.now in
    let commits = rows_plan change.index (entry_rows change.entry change.block) in
    let mid = g.D.Device.blocks c.store_block.new.device in
    let first = c.in_ok-store_block.ensures.stores ready in
    let went = c.in_err-commit.ensures (still_ready ready first) in
    let p = err_from_is_err_and c.from_residual-in_err-commit.result c.from_residual-in_err-commit.ensures.1 in
    let all = cut_next (followed commits finish_plan) first (cut_longer (commits mid) (finish_plan (wrote mid (commits mid))) went) in
    rw p.1 (all.cut, all.off)

pub returns-in_err-finish : goal.returns-in_err-finish
returns-in_err-finish g c ready =
    let change = c.args.self.now in
    let commits = rows_plan change.index (entry_rows change.entry change.block) in
    let first = c.in_ok-store_block.ensures.stores ready in
    let second = c.in_ok-commit.ensures (still_ready ready first) in
    let went = c.in_err-finish.ensures (still_ready (still_ready ready first) second) in
    let p = err_from_is_err_and c.from_residual-in_err-finish.result c.from_residual-in_err-finish.ensures.1 in
    let all = cut_next (followed commits finish_plan) first (cut_next finish_plan second went) in
    rw p.1 (all.cut, all.off)

pub returns : goal.returns
returns g c ready =
    let change = c.args.self.now in
    let commits = rows_plan change.index (entry_rows change.entry change.block) in
    let first = c.in_ok-store_block.ensures.stores ready in
    let second = c.in_ok-commit.ensures (still_ready ready first) in
    let third = c.in_ok-finish.ensures (still_ready (still_ready ready first) second) in
    let all = whole_next (followed commits finish_plan) first (whole_next finish_plan second third) in
    (all.after, λ on. all.on)
