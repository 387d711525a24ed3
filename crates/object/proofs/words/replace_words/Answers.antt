use Rattle.std.proofs.Common.{ap, ◌∙◌, arith}
use Rattle.map.specs.Bytes.{placed}
use Rattle.object.specs.Words.{words_of}
use Rattle.object.proofs.WordLaws.{words_put}
use Rattle.object.proofs.words.replace_words.Goals as goal

pub returns-clause-after : goal.returns-clause-after
unfolding placed
returns-clause-after c =
    ap words_of c.put_words.ensures ∙ words_put c.args.block.now c.args.new.now c.args.first c.told-block (omega arith) (λ i. let fits = c.type_inv.new i in omega arith)
