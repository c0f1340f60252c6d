use Rattle.std.proofs.Common.{◌∙◌, ap, sym}
use Rattle.surf_obj.specs.declared.layout.Layout.{Layout}
use Rattle.port_stage.proofs.StageLemmas.{can_blt, drawn_stage, from_point}
use Rattle.port_stage.proofs.calls.blt.Goals as goal

pub eng_bit_blt_managed-requires-clause-can : goal.eng_bit_blt_managed-requires-clause-can
eng_bit_blt_managed-requires-clause-can c =
    let t = c.args.tools.now in
    rw c.blt_call-call.ensures
    (can_blt t.size t.format c.args.port.now c.args.clip.now t.table t.sides c.requires.targets c.requires.bounds t.colours _ _ _ _ t.lent _ from_point
    (t.lent_from ∙ sym c.view-source.ensures.format) t.lent_to (ap (λ (l : Layout). l.format) (c.on-mask.ensures.layout ∙ c.new.ensures)))

pub returns-clause-targets : goal.returns-clause-targets
returns-clause-targets c =
    let t = c.args.tools.now in
    drawn_stage t.size t.format c.args.port.now c.eng_bit_blt_managed.new.port _ _ _ _ _ _ c.requires.targets
    (rw c.blt_call-call.ensures at c.eng_bit_blt_managed.ensures.draws)
