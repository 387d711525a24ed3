use Rattle.std.proofs.Common.{◌+◌, ◌-◌, length, ap, ◌∙◌, arith}
use Rattle.map.specs.Bytes.{placed}
use Rattle.object.proofs.Placing.{placed_from_part}
use Rattle.object.proofs.bytes.put_bytes.Goals as goal

pub returns : goal.returns
returns c =
    let at = c.args.at in
    let block = c.args.block.now in
    let put = c.copy_from_slice.new.self in
    let bytes = c.args.bytes.now in
    placed_from_part at (at + length bytes - at) block put (omega (arith, ap length c.copy_from_slice.ensures.after))
    ∙ ap (λ xs. placed at xs block) c.copy_from_slice.ensures.after
