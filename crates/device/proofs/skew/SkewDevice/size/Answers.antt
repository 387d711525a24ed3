use Rattle.std.proofs.Common.{◌*◌, ◌/◌, sym, ap, ◌∙◌}
use Rattle.device.specs.SkewLaws.{skewed_size}
use Rattle.device.proofs.skew.SkewDevice.size.Goals as goal

pub returns : goal.returns
returns g c =
    let s = c.args.self.now in
    ap (λ n. 32 * (n / 32)) c.size.ensures ∙ sym (skewed_size s.factor.k (g.D.Device.blocks s.device))
