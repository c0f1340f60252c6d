use Rattle.std.proofs.Common.{◌∙◌}
use Rattle.brush_obj.proofs.BrushLemmas.{rows_are_tiled}
use Rattle.brush_obj.proofs.ink.Ink.made.Goals as goal

pub returns-clause-values : goal.returns-clause-values
returns-clause-values c =
    let ink = c.new.result in
    let size = c.new.ensures.size ∙ c.size-size.ensures.size in
    rw c.new.ensures.values (rows_are_tiled c.args.face.now c.args.format c.args.table.now ink.size c.write_tile.new.out size ink.sides.0 ink.sides.2
    (rw (c.new.ensures.values, size) at ink.len) c.write_tile.ensures.values)
