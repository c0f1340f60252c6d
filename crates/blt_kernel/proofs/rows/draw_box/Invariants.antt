use Rattle.std.proofs.Common.{◌≡◌}
use Rattle.geom_base.specs.Points.{is_in}
use Rattle.surf_obj.specs.Lent.{values_of, size_of, format_of, OnlyPixels}
use Rattle.geom_base.specs.Step.{redrawn}
use Rattle.blt_kernel.specs.InnerDrawing.{drawn}
use Rattle.blt_kernel.specs.InnerOrder.{rows_done}
use Rattle.blt_kernel.proofs.rows.draw_box.Given as goal

-- the first rows are drawn
abbrev pub invariant-loop-i : goal.invariant-loop-i
invariant-loop-i l = record {
  values : values_of l.dst ≡ redrawn (size_of l.fn.dst) (values_of l.fn.dst)
      (λ p. is_in p (rows_done l.forward l.edges.left l.edges.top l.edges.right l.edges.bottom l.i))
      (drawn l.drawing (size_of l.fn.dst) (format_of l.fn.dst) (values_of l.fn.dst));
  only : OnlyPixels l.fn.dst l.dst;
}
