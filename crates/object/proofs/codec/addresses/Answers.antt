use Rattle.std.proofs.Common.{rules, ℕ, ◌+◌}
use Rattle.object.specs.Roots.{addresses_in}
use Rattle.object.specs.Words.{word_at}
use Rattle.object.proofs.Made.{from_fn_made}
use Rattle.object.proofs.codec.addresses.Goals as goal

pub returns : goal.returns
unfolding addresses_in
returns c = from_fn_made _ (λ (i : ℕ). word_at c.args.block.now (8 + i)) _ (λ i y q k. search rules) c.from_fn.result 64 0 c.from_fn.ensures.items
