use Rattle.brush_obj.proofs.MoveLemmas.{blt_ignores}
use Rattle.brush_obj.proofs.blt_call.BltCall.reads_target.Goals as goal

pub returns-else-needs_target : goal.returns-else-needs_target
returns-else-needs_target c none = blt_ignores c.args.self.now c.needs_target.result c.needs_mask.result c.needs_target.ensures.spared
    c.needs_mask.ensures.value c.if-needs_target.false none
