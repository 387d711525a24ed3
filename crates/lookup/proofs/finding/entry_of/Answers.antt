use Rattle.std.proofs.Common.{◌≡◌, Ok, sym, ap, arith}
use Rattle.lookup.proofs.Past.{past_entry}
use Rattle.map.specs.Addresses.{cylinder_of}
use Rattle.lookup.proofs.finding.entry_of.Goals as goal

pub returns-in_default : goal.returns-in_default
returns-in_default g c ready =
    let d = g.D.Device in
    let device = c.args.device.now in
    let cylinder : c.split-cylinder.result.0 ≡ cylinder_of c.args.a = ap (λ t. t.0) c.split-cylinder.ensures.value in
    ap Ok (sym (past_entry (d.blocks device) (d.lit device) c.args.a ready (omega (arith, cylinder, c.in_default.ensures))))
