use Rattle.std.proofs.Common.{◌+◌, ◌*◌, get_or, drop, sym, ap, ◌∙◌, arith}
use Rattle.map.specs.declared.entry.Entry.TheVariants.{Map}
use Rattle.rebuild.specs.Noting.{bit_noted}
use Rattle.rebuild.proofs.Stepping.{noting, more_noting, all_noting}
use Rattle.rebuild.proofs.lost_map.LostMap.note_bits.Goals as goal

pub loop-s-preserved : goal.loop-s-preserved
loop-s-preserved c =
    let b = 32 * c.args.other in
    let s = c.loop-s.s in
    let others = c.args.map.now in
    let m = c.loop-s.self in
    let noted = c.note_bit.ensures ∙ ap (λ a. record m { entries = bit_noted m.cylinder m.places a (get_or others s Map) m.entries }) c.join.ensures in
    ap (noting (b + (s + 1)) (drop (s + 1) others)) noted ∙ sym (more_noting b s others m (omega (arith, c.told-map))) ∙ c.loop-s.invariant

pub returns : goal.returns
returns c = sym (all_noting (32 * c.args.other) c.loop-s.s c.args.map.now c.loop-s.self (omega (arith, c.told-map))) ∙ c.loop-s.invariant
