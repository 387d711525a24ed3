use Rattle.std.proofs.Common.{◌*◌, ◌/◌, ◌<◌, length, arith}
use Rattle.device.specs.SkewLaws.{skewed_size}
use Rattle.device.proofs.Skews.{read_skewed}
use Rattle.device.proofs.skew.SkewDevice.read.Goals as goal

pub returns : goal.returns
returns g c =
    let s = c.args.self.now in
    let k = s.factor.k in
    let b = c.args.b in
    let below = g.D.Device.blocks s.device in
    let lit = g.D.Device.lit s.device in
    let old = c.args.buffer.now in
    let new = c.read.new.buffer in
    let within : b < 32 * (length below / 32) = omega (arith, skewed_size k below) in
    read_skewed k s.factor.allowed below b within lit c.read.result old new (rw c.place.ensures.value at c.read.ensures)
