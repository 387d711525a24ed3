use Rattle.std.proofs.Common.{ℕ, get_or, rules}
use Rattle.object.proofs.Made.{from_fn_made}
use Rattle.journal.specs.Rows.{row_of, new_address, new_addresses}
use Rattle.journal.proofs.rows.new_addresses.Goals as goal

pub returns : goal.returns
unfolding new_addresses
returns c = from_fn_made _ (λ (k : ℕ). new_address (row_of c.args.rows.now k) (get_or c.args.old.now k 0)) _ (λ i y q called. search rules) c.from_fn.result 64 0 c.from_fn.ensures.items
