use Rattle.std.proofs.Common.{◌≡◌, ◌+◌, ◌-◌, ◌*◌, take, drop, ap, ◌∙◌, arith}
use Rattle.map.specs.Entries.{decoded_entry}
use Rattle.map.proofs.cylinder.decode_sector.Goals as goal

pub returns : goal.returns
returns c =
    let s = c.args.s in
    let from = drop (16 * s) c.args.block.now in
    let n : 16 * s + 16 - 16 * s ≡ 16 = omega arith in
    c.decode.ensures
    ∙ ap (λ b. decoded_entry c.from.result b (take (16 * s + 16 - 16 * s) from)) c.address.ensures
    ∙ ap (λ m. decoded_entry m (32 * c.args.cylinder + s) (take (16 * s + 16 - 16 * s) from)) c.from.ensures
    ∙ ap (λ m. decoded_entry c.args.cylinders (32 * c.args.cylinder + s) (take m from)) n
