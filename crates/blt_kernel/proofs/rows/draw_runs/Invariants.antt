use Rattle.std.proofs.Common.{◌≡◌, ◌-◌, ◌≤◌}
use Rattle.geom_base.specs.Points.{is_in}
use Rattle.surf_obj.specs.Lent.{values_of, size_of, format_of, OnlyPixels}
use Rattle.geom_base.specs.Step.{redrawn}
use Rattle.blt_kernel.specs.InnerDrawing.{drawn}
use Rattle.blt_kernel.specs.InnerOrder.{columns_done}
use Rattle.blt_kernel.proofs.rows.draw_runs.Given as goal

abbrev pub decreases-loop-done : goal.decreases-loop-done
decreases-loop-done l = l.width - l.done

-- the first columns are drawn
abbrev pub invariant-loop-done : goal.invariant-loop-done
invariant-loop-done l = record {
  within : l.done ≤ l.width;
  values : values_of l.dst ≡ redrawn (size_of l.fn.dst) (values_of l.fn.dst) (λ p. is_in p (columns_done l.forward l.left l.right l.y l.done))
      (drawn l.drawing (size_of l.fn.dst) (format_of l.fn.dst) (values_of l.fn.dst));
  only : OnlyPixels l.fn.dst l.dst;
}
