use Rattle.std.proofs.Common.{◌≡◌, length}
use Rattle.std.specs.List.{All}
use Rattle.geom_base.specs.Points.{LiesIn}
use Rattle.surf_obj.specs.Lent.{size_of, format_of, values_of, OnlyPixels}
use Rattle.clip_obj.specs.Order.{ordered}
use Rattle.eng_calls.specs.Steps.{step_by_step}
use Rattle.eng_calls.proofs.draws.draw_clip.Given as goal

-- what is left, drawn on what is there, gives the whole
abbrev pub invariant-loop-batch : goal.invariant-loop-batch
invariant-loop-batch g l = record {
  values : let rule = g.D.DrawsRect.gives l.call (size_of l.fn.dst) (format_of l.fn.dst) in step_by_step (size_of l.fn.dst) rule l.clip.left (values_of l.dst) ≡
      step_by_step (size_of l.fn.dst) rule (ordered l.fn.direction l.fn.clip.rects) (values_of l.fn.dst);
  only : OnlyPixels l.fn.dst l.dst;
  rects : l.clip.rects ≡ l.fn.clip.rects;
  bounds : l.clip.bounds ≡ l.fn.clip.bounds;
  inside : All (λ r. LiesIn r (size_of l.fn.dst)) l.clip.left;
}

abbrev pub decreases-loop-batch : goal.decreases-loop-batch
decreases-loop-batch g l = length l.clip.left
