use Rattle.std.proofs.Common.{◌∙◌}
use Rattle.surf_obj.specs.Lent.{size_of, values_of}
use Rattle.surf_obj.specs.View.{view_size, view_values}
use Rattle.blt_kernel.proofs.ShiftLemmas.{value_along}
use Rattle.blt_kernel.proofs.source.SourcePixels.read_own.Goals as goal

pub returns-in-Some-clause-values : goal.returns-in-Some-clause-values
returns-in-Some-clause-values c k h = rw c.in-Some.is
    (rw c.at-from.ensures at (c.read_row.ensures.values k h)
    ∙ value_along c.args.self.now.shift (view_size c.in-Some.view.now)
    (view_values c.in-Some.view.now) c.args.x c.args.y k c.column.result c.row.result c.column.ensures.value c.row.ensures.value)

pub returns-in-None-clause-values : goal.returns-in-None-clause-values
returns-in-None-clause-values c k h = rw c.in-None.is
    (rw c.at-from.ensures at (c.read_row-in-None.ensures.values k h)
    ∙ value_along c.args.self.now.shift (size_of c.args.dst.now)
    (values_of c.args.dst.now) c.args.x c.args.y k c.column.result c.row.result c.column.ensures.value c.row.ensures.value)
