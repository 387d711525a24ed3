use Rattle.std.proofs.Common.{sym, ◌∙◌}
use Rattle.map.proofs.Entries.{decoded_none}
use Rattle.map.proofs.entry.Entry.decode.Goals as goal

pub returns-in_err-as_array : goal.returns-in_err-as_array
returns-in_err-as_array c = c.from_residual.ensures ∙ sym (decoded_none c.args.cylinders c.args.a c.args.part.now c.in_err-as_array.ensures.cases)
