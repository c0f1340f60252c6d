use Rattle.surf_obj.specs.Lent.{size_of, format_of, values_of}
use Rattle.geom_base.specs.Points.{box_of}
use Rattle.brush_obj.specs.Calls.{new_of_paint, paint_operands}
use Rattle.blt_kernel.specs.InnerDrawing.{drawn}
use Rattle.brush_obj.specs.Ink.{ink_at}
use Rattle.blt_kernel.proofs.KernelLemmas.{box_redrawn}
use Rattle.blt_kernel.proofs.paint.paint_inked.Goals as goal

pub returns-clause-values : goal.returns-clause-values
returns-clause-values c =
    let size = size_of c.args.dst.now in
    let format = format_of c.args.dst.now in
    let values = values_of c.args.dst.now in
    box_redrawn c.args.dst.now _ (box_of c.of.result.left c.of.result.top c.of.result.right c.of.result.bottom) c.args.rect
    (drawn c.paint_drawing-drawing.result size format values) (new_of_paint c.args.call.now (paint_operands (ink_at c.args.ink) format))
    c.of.ensures c.draw_box.ensures.values (c.paint_drawing-drawing.ensures.values size format values)
