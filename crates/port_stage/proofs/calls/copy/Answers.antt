use Rattle.std.proofs.Common.{◌∙◌, sym}
use Rattle.port_stage.proofs.StageLemmas.{can_copy, drawn_stage}
use Rattle.port_stage.proofs.calls.copy.Goals as goal

pub eng_copy_bits_managed-requires-clause-can : goal.eng_copy_bits_managed-requires-clause-can
eng_copy_bits_managed-requires-clause-can c =
    let t = c.args.tools.now in
    rw c.copy_call-call.ensures
    (can_copy t.size t.format c.args.port.now c.args.clip.now t.table t.sides c.requires.targets c.requires.bounds t.colours c.args.src _ t.lent
    c.requires.point (t.lent_from ∙ sym c.view-source.ensures.format) t.lent_to)

pub returns-clause-targets : goal.returns-clause-targets
returns-clause-targets c =
    let t = c.args.tools.now in
    drawn_stage t.size t.format c.args.port.now c.eng_copy_bits_managed.new.port _ _ _ _ _ _ c.requires.targets
    (rw c.copy_call-call.ensures at c.eng_copy_bits_managed.ensures.draws)
