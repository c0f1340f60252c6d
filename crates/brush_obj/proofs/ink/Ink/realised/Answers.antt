use Rattle.std.proofs.Math.Path.{fun_ext}
use Rattle.std.proofs.Common.{◌∙◌}
use Rattle.brush_obj.proofs.BrushLemmas.{tiled_is_brush}
use Rattle.brush_obj.proofs.ink.Ink.realised.Goals as goal

pub returns-clause-values : goal.returns-clause-values
returns-clause-values c face format table is =
    let size = c.size.ensures.size in
    rw (c.new.ensures.size ∙ size, c.new.ensures.values ∙ c.values.ensures)
    (fun_ext λ q. tiled_is_brush face format table c.args.brush.now q is (rw size at c.size.ensures.sides.0) (rw size at c.size.ensures.sides.2))
