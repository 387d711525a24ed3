use Rattle.std.proofs.Common.{◌≡◌, ◌+◌, ◌-◌, ◌*◌, ◌/◌, ◌<◌, length, take, drop, vec_items, sym, refl, ap, ◌∙◌, arith}
use Rattle.device.specs.Blocks.{Block}
use Rattle.device.specs.Images.{part}
use Rattle.device.specs.ImageLaws.{image_block, image_size}
use Rattle.device.proofs.image.ImageDevice.read.Goals as goal

pub returns : goal.returns
returns c =
    let b = c.args.b in
    let bytes = vec_items c.args.self.now.bytes in
    let within : b < length bytes / 512 = omega (arith, image_size bytes, c.size.ensures.value) in
    let n : 512 * b + 512 - 512 * b ≡ 512 = omega arith in
    let copied : c.copy_from_slice.new.self ≡ part bytes b =
    c.copy_from_slice.ensures.after ∙ ap (λ k. take k (drop (512 * b) c.deref.result.now)) n ∙ ap (λ xs. part xs b) c.deref.ensures.value in
    (omega (arith, image_size bytes), refl, image_block bytes b within ∙ ap Block.readable (sym copied))
