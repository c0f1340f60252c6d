use Rattle.std.proofs.Common.{◌≡◌, drop}
use Rattle.surf_obj.specs.Lent.{size_of, format_of, values_of, OnlyPixels}
use Rattle.eng_calls.specs.Steps.{step_by_step}
use Rattle.eng_calls.proofs.draws.draw_rects.Given as goal

-- the rest, drawn on what is there, gives the whole
abbrev pub invariant-loop-i : goal.invariant-loop-i
invariant-loop-i g l = record {
  values : let rule = g.D.DrawsRect.gives l.call (size_of l.fn.dst) (format_of l.fn.dst) in
      step_by_step (size_of l.fn.dst) rule (drop l.i l.rects) (values_of l.dst) ≡ step_by_step (size_of l.fn.dst) rule l.rects (values_of l.fn.dst);
  only : OnlyPixels l.fn.dst l.dst;
}
