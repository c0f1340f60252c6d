use Rattle.port_stage.proofs.StageLemmas.{can_cross, can_overlap, drawn_stage, from_point}
use Rattle.port_stage.proofs.calls.shift.Goals as goal
use Rattle.port_stage.proofs.calls.shift.Goals.{else-overlaps, then-overlaps}

pub eng_copy_bits_managed-requires-clause-can : goal.eng_copy_bits_managed-requires-clause-can
eng_copy_bits_managed-requires-clause-can c =
    let t = c.args.tools.now in
    elim c.if-overlaps.branch [
      | then-overlaps w ↦ rw (c.copy_call-call.ensures, w.held-is)
          (can_overlap t.size t.format c.args.port.now c.args.clip.now t.table t.sides c.requires.targets c.requires.bounds t.colours _ t.held
          from_point t.held_from t.held_to)
      | else-overlaps w ↦ rw (c.copy_call-call.ensures, w.held-is)
          (can_cross t.size t.format c.args.port.now c.args.clip.now t.table t.sides c.requires.targets c.requires.bounds t.colours _ t.held
          from_point t.held_from t.held_to)
    ]

pub returns-clause-targets : goal.returns-clause-targets
returns-clause-targets c =
    let t = c.args.tools.now in
    drawn_stage t.size t.format c.args.port.now c.eng_copy_bits_managed.new.port _ _ _ _ _ _ c.requires.targets
    (rw c.copy_call-call.ensures at c.eng_copy_bits_managed.ensures.draws)
