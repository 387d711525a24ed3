use Rattle.std.proofs.Common.{◌≡◌, true, take}
use Rattle.device.specs.Plans.{wrote}
use Rattle.saving.specs.Procedure.{copies}
use Rattle.saving.proofs.procedure.copy.Given as goal

abbrev pub invariant-loop-i : goal.invariant-loop-i
invariant-loop-i g l =
    let device = g.D.Device in
    (device.blocks l.device ≡ wrote (device.blocks l.initial.device) (copies (take l.i l.job.parts) l.from))
    × (device.lit l.initial.device ≡ true → device.lit l.device ≡ true)
