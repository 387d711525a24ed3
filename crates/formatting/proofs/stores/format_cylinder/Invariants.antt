use Rattle.std.proofs.Common.{◌≡◌, ◌-◌, true, take}
use Rattle.device.specs.Plans.{wrote}
use Rattle.formatting.specs.Formatting.{format_writes}
use Rattle.formatting.proofs.stores.format_cylinder.Given as goal

abbrev pub invariant-loop-sector : goal.invariant-loop-sector
invariant-loop-sector g l =
    let d = g.D.Device in
    (d.blocks l.device ≡ wrote (d.blocks l.initial.device) (take (l.sector - 1) (format_writes l.index l.cylinder)))
    × (d.lit l.initial.device ≡ true → d.lit l.device ≡ true)
