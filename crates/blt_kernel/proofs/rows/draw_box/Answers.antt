use Rattle.std.proofs.Common.{◌≡◌, ◌≤◌, ◌+◌, ◌∙◌, sym, ap, arith}
use Rattle.geom_base.specs.declared.rect.Rect.{Rect}
use Rattle.geom_base.specs.Points.{is_in}
use Rattle.surf_obj.specs.Lent.{size_of, format_of, values_of}
use Rattle.geom_base.specs.Step.{redrawn}
use Rattle.geom_base.specs.StepLaws.{redrawn_none}
use Rattle.surf_obj.specs.LentLaws.{OnlyPixels-refl, OnlyPixels-trans, length-values_of}
use Rattle.blt_kernel.specs.InnerDrawing.{drawn}
use Rattle.blt_kernel.specs.InnerOrder.{rows_done}
use Rattle.blt_kernel.proofs.OrderLemmas.{rows_none, rows_more, rows_ahead, rows_all, part_within}
use Rattle.blt_kernel.proofs.PartLemmas.{HasOperands-part, HasOperands-kept, drawn_more}
use Rattle.blt_kernel.proofs.rows.draw_box.Goals as goal

pub loop-i-init : goal.loop-i-init
loop-i-init c = record {
  values = sym (redrawn_none (size_of c.args.dst.now) (values_of c.args.dst.now)
      (λ p. is_in p (rows_done c.args.forward c.args.edges.now.left c.args.edges.now.top c.args.edges.now.right c.args.edges.now.bottom 0)) _
      (length-values_of c.args.dst.now)
      (λ x y hx hy. rows_none c.args.forward c.args.edges.now.left c.args.edges.now.top c.args.edges.now.right c.args.edges.now.bottom x y));
  only = OnlyPixels-refl c.args.dst.now;
}

pub draw_row-requires-clause-able : goal.draw_row-requires-clause-able
draw_row-requires-clause-able c =
    let fits : c.args.edges.now.top + c.loop-i.i + 1 ≤ c.args.edges.now.bottom = omega arith in
    let part = part_within c.args.forward c.args.edges.now.top c.args.edges.now.bottom c.loop-i.i 1 c.part_start-y.result fits c.part_start-y.ensures in
    HasOperands-part c.args.drawing.now (size_of c.loop-i.dst)
    (format_of c.loop-i.dst) c.args.edges.now.left c.args.edges.now.top c.args.edges.now.right c.args.edges.now.bottom c.args.edges.now.left
    c.part_start-y.result c.args.edges.now.right (c.part_start-y.result + 1)
    (HasOperands-kept c.args.drawing.now c.args.dst.now c.loop-i.dst c.args.edges.now.left c.args.edges.now.top c.args.edges.now.right c.args.edges.now.bottom
    c.loop-i.invariant.only c.requires.able) (omega arith) part.0 (omega arith) part.1

pub loop-i-preserved : goal.loop-i-preserved
loop-i-preserved c =
    let fits : c.args.edges.now.top + c.loop-i.i + 1 ≤ c.args.edges.now.bottom = omega arith in
    let part = part_within c.args.forward c.args.edges.now.top c.args.edges.now.bottom c.loop-i.i 1 c.part_start-y.result fits c.part_start-y.ensures in
    record {
      values = drawn_more c.args.drawing.now c.args.forward c.args.dst.now c.loop-i.dst c.draw_row.new.dst
          (rows_done c.args.forward c.args.edges.now.left c.args.edges.now.top c.args.edges.now.right c.args.edges.now.bottom c.loop-i.i)
          (rows_done c.args.forward c.args.edges.now.left c.args.edges.now.top c.args.edges.now.right c.args.edges.now.bottom (c.loop-i.i + 1))
          c.args.edges.now.left c.part_start-y.result c.args.edges.now.right
          (c.part_start-y.result + 1) c.loop-i.invariant.only c.loop-i.invariant.values c.draw_row.ensures
          (HasOperands-part c.args.drawing.now (size_of c.args.dst.now)
          (format_of c.args.dst.now) c.args.edges.now.left c.args.edges.now.top c.args.edges.now.right c.args.edges.now.bottom c.args.edges.now.left
          c.part_start-y.result c.args.edges.now.right (c.part_start-y.result + 1) c.requires.able (omega arith) part.0 (omega arith) part.1)
          c.requires.order
          (λ x y. rows_more c.args.forward c.args.edges.now.left c.args.edges.now.top c.args.edges.now.right c.args.edges.now.bottom c.loop-i.i
          c.part_start-y.result x y fits c.part_start-y.ensures)
          (λ x y sx sy. rows_ahead c.args.forward c.args.edges.now.left c.args.edges.now.top c.args.edges.now.right c.args.edges.now.bottom c.loop-i.i
          c.part_start-y.result x y sx sy fits c.part_start-y.ensures);
      only = OnlyPixels-trans c.args.dst.now c.loop-i.dst c.draw_row.new.dst c.loop-i.invariant.only c.draw_row.ensures.only;
    }

pub returns : goal.returns
returns c =
    let end : c.args.edges.now.top + c.loop-i.i ≡ c.args.edges.now.bottom = omega arith in
    record {
      values = c.loop-i.invariant.values
          ∙ ap (λ (r : Rect). redrawn (size_of c.args.dst.now) (values_of c.args.dst.now) (λ p. is_in p r)
          (drawn c.args.drawing.now (size_of c.args.dst.now) (format_of c.args.dst.now) (values_of c.args.dst.now)))
          (rows_all c.args.forward c.args.edges.now.left c.args.edges.now.top c.args.edges.now.right c.args.edges.now.bottom c.loop-i.i end);
      only = c.loop-i.invariant.only;
    }
