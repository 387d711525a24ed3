use Rattle.std.proofs.Common.{◌+◌, drop, sym, ap, ◌∙◌, arith}
use Rattle.rebuild.proofs.Stepping.{holding, more_holding, all_holding}
use Rattle.rebuild.proofs.lost_map.LostMap.hold_all.Goals as goal

pub loop-p-preserved : goal.loop-p-preserved
loop-p-preserved c =
    let p = c.loop-p.p in
    let xs = c.args.blocks.now in
    ap (holding c.args.id (p + 1) (drop (p + 1) xs)) c.hold.ensures ∙ sym (more_holding c.args.id p xs c.loop-p.self (omega (arith, c.told-blocks))) ∙ c.loop-p.invariant

pub returns : goal.returns
returns c = sym (all_holding c.args.id c.loop-p.p c.args.blocks.now c.loop-p.self (omega (arith, c.told-blocks))) ∙ c.loop-p.invariant
