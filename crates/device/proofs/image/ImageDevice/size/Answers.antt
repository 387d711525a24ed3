use Rattle.std.proofs.Common.{◌/◌, vec_items, sym, ap, ◌∙◌}
use Rattle.device.specs.ImageLaws.{image_size}
use Rattle.device.proofs.image.ImageDevice.size.Goals as goal

pub returns-clause-value : goal.returns-clause-value
returns-clause-value c =
    let held = c.args.self.now.bytes in
    ap (λ k. k / 512) (c.len.ensures ∙ held.ok.0) ∙ sym (image_size (vec_items held))
