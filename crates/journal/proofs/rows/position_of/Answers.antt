use Rattle.std.proofs.Common.{ℕ, ◌∙◌, ap, rules, sym}
use Rattle.volume.specs.Search.{lowest}
use Rattle.journal.specs.Rows.{is_new, row_of}
use Rattle.volume.proofs.Searching.{IsFirst, first_is_lowest}
use Rattle.journal.proofs.rows.position_of.Goals as goal

pub returns : goal.returns
returns c =
    let t = λ (k : ℕ). is_new c.args.a (row_of c.args.rows.now k) in
    let found : IsFirst t 64 c.map.result = search rules in
    first_is_lowest t 64 c.map.result found ∙ ap (lowest t) (sym c.told-rows)
