use Rattle.std.proofs.Common.{◌*◌, ◌/◌, ◌<◌, length, arith}
use Rattle.device.specs.SkewLaws.{skewed_size}
use Rattle.device.proofs.Skews.{store_skewed}
use Rattle.device.proofs.skew.SkewDevice.store.Goals as goal

pub returns-clause-stores : goal.returns-clause-stores
returns-clause-stores g c =
    let s = c.args.self.now in
    let k = s.factor.k in
    let b = c.args.b in
    let device = g.D.Device in
    let below = device.blocks s.device in
    let after = c.store.new.self in
    let within : b < 32 * (length below / 32) = omega (arith, skewed_size k below) in
    store_skewed k s.factor.allowed below b within (device.lit s.device) c.args.bytes.now c.store.result (device.blocks after) (device.lit after)
    (rw c.place-at.ensures.value at c.store.ensures.stores)
