use Rattle.std.proofs.Common.{◌∙◌}
use Rattle.surf_obj.specs.View.{view_size, view_values}
use Rattle.blt_kernel.proofs.ShiftLemmas.{value_along}
use Rattle.blt_kernel.proofs.mask.Mask.read_run.Goals as goal

pub returns : goal.returns
returns c k h = rw c.at.ensures at (c.read_row.ensures.values k h)
    ∙ value_along c.args.self.now.shift (view_size c.args.self.now.view.now)
    (view_values c.args.self.now.view.now) c.args.x c.args.y k c.column-x.result c.row-y.result c.column-x.ensures.value c.row-y.ensures.value
