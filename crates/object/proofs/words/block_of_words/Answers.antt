use Rattle.std.proofs.Common.{◌∙◌, arith}
use Rattle.object.specs.Words.{bytes_of}
use Rattle.object.proofs.Placing.{placed_whole}
use Rattle.object.proofs.WordLaws.{bytes_long}
use Rattle.object.proofs.words.block_of_words.Goals as goal

pub returns : goal.returns
returns c =
    let words = c.args.words.now in
    c.put_words.ensures ∙ placed_whole (bytes_of words) _ (omega (arith, bytes_long words))
