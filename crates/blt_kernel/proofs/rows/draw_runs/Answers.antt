use Rattle.std.proofs.Common.{◌≡◌, ◌≤◌, ◌+◌, ◌∙◌, sym, ap, arith}
use Rattle.geom_base.specs.declared.rect.Rect.{Rect}
use Rattle.geom_base.specs.Points.{is_in}
use Rattle.surf_obj.specs.Lent.{size_of, format_of, values_of}
use Rattle.geom_base.specs.Step.{redrawn}
use Rattle.geom_base.specs.StepLaws.{redrawn_none}
use Rattle.surf_obj.specs.LentLaws.{OnlyPixels-refl, OnlyPixels-trans, length-values_of}
use Rattle.blt_kernel.specs.InnerDrawing.{drawn}
use Rattle.blt_kernel.specs.InnerOrder.{columns_done}
use Rattle.blt_kernel.proofs.OrderLemmas.{columns_none, columns_more, columns_ahead, columns_all, part_within}
use Rattle.blt_kernel.proofs.PartLemmas.{HasOperands-part, HasOperands-kept, drawn_more}
use Rattle.blt_kernel.proofs.rows.draw_runs.Goals as goal

pub loop-done-init : goal.loop-done-init
loop-done-init c = record {
  within = omega arith;
  values = sym (redrawn_none (size_of c.args.dst.now) (values_of c.args.dst.now)
      (λ p. is_in p (columns_done c.args.forward c.args.left c.args.right c.args.y 0)) _ (length-values_of c.args.dst.now)
      (λ x y hx hy. columns_none c.args.forward c.args.left c.args.right c.args.y x y));
  only = OnlyPixels-refl c.args.dst.now;
}

pub draw_run-requires-clause-able : goal.draw_run-requires-clause-able
draw_run-requires-clause-able c =
    let fits : c.args.left + c.loop-done.done + c.min-len.result ≤ c.args.right = omega arith in
    let part = part_within c.args.forward c.args.left c.args.right c.loop-done.done c.min-len.result c.part_start-x.result fits c.part_start-x.ensures in
    HasOperands-part c.args.drawing.now (size_of c.loop-done.dst) (format_of c.loop-done.dst) c.args.left c.args.y c.args.right
    (c.args.y + 1) c.part_start-x.result c.args.y (c.part_start-x.result + c.min-len.result) (c.args.y + 1)
    (HasOperands-kept c.args.drawing.now c.args.dst.now c.loop-done.dst c.args.left c.args.y c.args.right
    (c.args.y + 1) c.loop-done.invariant.only c.requires.able) part.0 (omega arith) part.1 (omega arith)

pub loop-done-preserved : goal.loop-done-preserved
loop-done-preserved c =
    let fits : c.args.left + c.loop-done.done + c.min-len.result ≤ c.args.right = omega arith in
    let part = part_within c.args.forward c.args.left c.args.right c.loop-done.done c.min-len.result c.part_start-x.result fits c.part_start-x.ensures in
    record {
      within = omega arith;
      values = drawn_more c.args.drawing.now c.args.forward c.args.dst.now c.loop-done.dst c.draw_run.new.dst
          (columns_done c.args.forward c.args.left c.args.right c.args.y c.loop-done.done)
          (columns_done c.args.forward c.args.left c.args.right c.args.y (c.loop-done.done + c.min-len.result))
          c.part_start-x.result c.args.y (c.part_start-x.result + c.min-len.result)
          (c.args.y + 1) c.loop-done.invariant.only c.loop-done.invariant.values c.draw_run.ensures
          (HasOperands-part c.args.drawing.now (size_of c.args.dst.now) (format_of c.args.dst.now) c.args.left c.args.y c.args.right
          (c.args.y + 1) c.part_start-x.result c.args.y (c.part_start-x.result + c.min-len.result) (c.args.y + 1) c.requires.able part.0
          (omega arith) part.1 (omega arith))
          c.requires.order
          (λ x y. columns_more c.args.forward c.args.left c.args.right c.args.y c.loop-done.done c.min-len.result c.part_start-x.result x y fits
          c.part_start-x.ensures)
          (λ x y sx sy. columns_ahead c.args.forward c.args.left c.args.right c.args.y c.loop-done.done c.min-len.result c.part_start-x.result x y sx sy fits
          c.part_start-x.ensures);
      only = OnlyPixels-trans c.args.dst.now c.loop-done.dst c.draw_run.new.dst c.loop-done.invariant.only c.draw_run.ensures.only;
    }

pub returns : goal.returns
returns c =
    let end : c.args.left + c.loop-done.done ≡ c.args.right = omega arith in
    record {
      values = c.loop-done.invariant.values
          ∙ ap (λ (r : Rect). redrawn (size_of c.args.dst.now) (values_of c.args.dst.now) (λ p. is_in p r)
          (drawn c.args.drawing.now (size_of c.args.dst.now) (format_of c.args.dst.now) (values_of c.args.dst.now)))
          (columns_all c.args.forward c.args.left c.args.right c.args.y c.loop-done.done end);
      only = c.loop-done.invariant.only;
    }
