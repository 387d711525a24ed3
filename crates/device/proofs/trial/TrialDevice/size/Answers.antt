use Rattle.std.proofs.Common.{min, vec_items, sym, ◌∙◌, ap₂}
use Rattle.device.specs.Images.{image_blocks}
use Rattle.device.specs.TrialLaws.{masked_size}
use Rattle.device.proofs.trial.TrialDevice.size.Goals as goal

pub returns : goal.returns
returns c =
    let t = c.args.self.now in
    c.min.ensures ∙ ap₂ min c.size.ensures.value (c.len.ensures ∙ t.marks.ok.0) ∙ sym (masked_size (image_blocks (vec_items t.image.bytes)) (vec_items t.marks))
