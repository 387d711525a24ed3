use Rattle.std.proofs.Common.{rules}
use Rattle.object.specs.Words.{word_at, words_of}
use Rattle.object.proofs.Made.{from_fn_made}
use Rattle.object.proofs.words.words_of_block.Goals as goal

pub returns : goal.returns
unfolding words_of
returns c = from_fn_made _ (word_at c.args.block.now) _ (λ i y q k. search rules) c.from_fn.result 256 0 c.from_fn.ensures.items
