use Rattle.std.proofs.Common.{◌≤◌, arith}
use Rattle.map.specs.Addresses.{cylinder_of}
use Rattle.journal.proofs.Carrying.{none_stored}
use Rattle.journal.proofs.Passing.{past_writes}
use Rattle.volume.specs.Volume.{cylinders_of}
use Rattle.journal.proofs.committing.pass_place.Goals as goal

pub returns-in-Err : goal.returns-in-Err
returns-in-Err g c = record {
  few = omega arith;
  stores = λ ready.
      let d = g.D.Device in
      let device = c.args.device.now in
      let far : cylinders_of (d.blocks device) ≤ cylinder_of c.args.r = omega (arith, ready.few, c.in-Err.ensures) in
      let none = past_writes (g.R.MapRule.rule c.args.rule.now) (d.blocks device) (d.lit device) (cylinder_of c.args.r) ready far in
      rw none (none_stored ready);
}
