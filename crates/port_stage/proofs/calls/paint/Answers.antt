use Rattle.port_stage.proofs.StageLemmas.{can_paint, drawn_stage}
use Rattle.port_stage.proofs.calls.paint.Goals as goal

pub eng_paint_managed-requires-clause-can : goal.eng_paint_managed-requires-clause-can
eng_paint_managed-requires-clause-can c =
    let t = c.args.tools.now in
    rw c.paint_call-call.ensures
    (can_paint t.size t.format c.args.port.now c.args.clip.now t.table t.sides c.requires.targets c.requires.bounds t.colours _ _)

pub returns-clause-targets : goal.returns-clause-targets
returns-clause-targets c =
    let t = c.args.tools.now in
    drawn_stage t.size t.format c.args.port.now c.eng_paint_managed.new.port _ _ _ _ _ _ c.requires.targets
    (rw c.paint_call-call.ensures at c.eng_paint_managed.ensures.draws)
