use Rattle.std.proofs.Common.{◌∙◌}
use Rattle.surf_obj.specs.Lent.{size_of, format_of, values_of}
use Rattle.brush_obj.specs.Ink.{ink_at}
use Rattle.eng_calls.specs.InnerGives.{blt_rule}
use Rattle.eng_calls.proofs.CallLemmas.{whole_step, shift_keeps}
use Rattle.eng_calls.proofs.blt.blt_inked.Goals as goal

pub returns-clause-values : goal.returns-clause-values
returns-clause-values c =
    let size = size_of c.args.dst.now in
    let format = format_of c.args.dst.now in
    let pattern = ink_at c.args.ink in
    c.draw_clip.ensures.values
    ∙ whole_step size (blt_rule c.args.call.now c.args.src c.args.mask c.args.xlate.now pattern size format) c.direction_for.result c.args.clip.now.rects
    (values_of c.args.dst.now) c.draw_clip.ensures.order
    (shift_keeps c.args.call.now c.args.src c.args.mask c.args.xlate.now pattern size format c.direction_for.result c.direction_for.ensures)
