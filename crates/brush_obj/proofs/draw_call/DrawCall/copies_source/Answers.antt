use Rattle.std.proofs.Common.{◌∙◌, ap, eqb-true, subst, sym}
use Rattle.rop_mix.specs.Needs.{source_needed}
use Rattle.brush_obj.specs.Calls.{CopiesSource, reads_source}
use Rattle.brush_obj.specs.CallLaws.{blt-source, copy-source, source_alone_needs}
use Rattle.brush_obj.specs.declared.draw_call.DrawCall.{DrawCall}
use Rattle.brush_obj.proofs.draw_call.DrawCall.copies_source.Goals as goal

pub returns-in-Blt-clause-gives : goal.returns-in-Blt-clause-gives
returns-in-Blt-clause-gives c = λ t.
    subst (λ (call : DrawCall). CopiesSource call) (sym c.in-Blt.is) (λ o p d v e fits. blt-source c.in-Blt.call o p d v (eqb-true _ _ t) e fits)

pub returns-in-Blt-clause-reads : goal.returns-in-Blt-clause-reads
returns-in-Blt-clause-reads c = λ t. ap reads_source c.in-Blt.is ∙ ap source_needed (eqb-true c.in-Blt.call.rop.code 52428 t) ∙ source_alone_needs

pub returns-in-Copy-clause-gives : goal.returns-in-Copy-clause-gives
returns-in-Copy-clause-gives c = λ _.
    subst (λ (call : DrawCall). CopiesSource call) (sym c.in-Copy.is) (λ o p d v e fits. copy-source c.in-Copy.field-0 o p d v e fits)
