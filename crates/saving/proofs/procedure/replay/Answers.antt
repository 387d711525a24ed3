use Rattle.std.proofs.Common.{◌≡◌, true, sym, ◌∙◌, subst, arith}
use Rattle.device.specs.PlanLaws.{runs_cut, runs_ended}
use Rattle.saving.specs.Procedure.{save_plan, recovery_plan, CutShort}
use Rattle.saving.proofs.procedure.replay.Goals as goal

pub loop-cuts-init : goal.loop-cuts-init
loop-cuts-init g c = CutShort.none

pub loop-cuts-preserved : goal.loop-cuts-preserved
loop-cuts-preserved g c =
    let d = g.D.Device in
    let saved = c.save.new.device in
    let lit_up = c.light.new.self in
    let end = c.recover.new.device in
    let cut = runs_cut (d.blocks lit_up) true (recovery_plan (d.blocks lit_up)) (d.blocks end) (d.lit end) c.recover.result (sym c.is_ok.ensures.value ∙ c.if-is_ok.false) (c.recover.ensures c.light.ensures.after) in
    CutShort.more (subst (CutShort c.loop-cuts.cuts (d.blocks saved)) (sym c.light.ensures.same) c.loop-cuts.invariant) cut.0

pub returns : goal.returns
returns g c =
    let d = g.D.Device in
    let entry = c.args.device.now in
    let saved = c.save.new.device in
    let first = rw (← c.is_ok-saved.ensures.value) at (runs_ended (d.blocks entry) (d.lit entry) (save_plan c.args.new.now.parts) (d.blocks saved) (d.lit saved) c.save.result c.save.ensures) in
    let nine : c.loop-cuts.cuts ≡ 9 = omega arith in
    (omega arith, record { saved = d.blocks saved; first = first; again = rw nine at c.loop-cuts.invariant })
