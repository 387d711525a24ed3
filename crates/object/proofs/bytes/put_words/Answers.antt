use Rattle.std.proofs.Common.{◌+◌, ◌*◌, sym, ◌∙◌, ap₂, arith}
use Rattle.map.specs.Bytes.{placed}
use Rattle.object.proofs.Placing.{placed_nothing}
use Rattle.object.proofs.WordLaws.{words_more}
use Rattle.object.proofs.bytes.put_words.Goals as goal

pub loop-i-init : goal.loop-i-init
loop-i-init c = sym (placed_nothing c.args.at c.args.block.now)

pub loop-i-preserved : goal.loop-i-preserved
loop-i-preserved c =
    let i = c.loop-i.i in
    c.put_bytes.ensures ∙ ap₂ (placed (c.args.at + 2 * i)) c.to_le_bytes.ensures c.loop-i.invariant
    ∙ words_more c.args.words.now c.args.block.now c.args.at i (omega arith) (omega (arith, c.told-block))
