use Rattle.saving.specs.Procedure.{CutShort}
use Rattle.saving.proofs.procedure.replay.Given as goal

abbrev pub invariant-loop-cuts : goal.invariant-loop-cuts
invariant-loop-cuts g l =
    let blocks = g.D.Device.blocks in
    CutShort l.cuts (blocks l.initial.device) (blocks l.device)
