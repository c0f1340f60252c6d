use Rattle.std.proofs.Common.{◌∙◌, refl}
use Rattle.surf_obj.specs.Lent.{size_of, format_of, values_of}
use Rattle.brush_obj.specs.Calls.{new_of_paint, paint_operands}
use Rattle.brush_obj.specs.Ink.{ink_at}
use Rattle.clip_obj.specs.declared.direction.Direction.TheVariants.{Any}
use Rattle.eng_calls.proofs.CallLemmas.{whole_step}
use Rattle.eng_calls.proofs.paint.paint_clip.Goals as goal

pub returns-clause-values : goal.returns-clause-values
returns-clause-values c =
    c.draw_clip.ensures.values
    ∙ whole_step (size_of c.args.dst.now)
    (λ found. new_of_paint c.args.call.now (paint_operands (ink_at c.args.ink) (format_of c.args.dst.now))) Any c.args.clip.now.rects
    (values_of c.args.dst.now) c.draw_clip.ensures.order (λ a b before found change p d here. refl)
