use Rattle.std.proofs.Common.{◌≡◌, ◌++◌, map, take, drop}
use Rattle.geom_base.specs.Points.{moved_rect}
use Rattle.region.proofs.rect_list.moved_rects.Given as goal

abbrev pub invariant-loop-rect : goal.invariant-loop-rect
invariant-loop-rect l = l.rect-items ≡ map (λ rect. moved_rect rect l.by) (take l.rect-index l.rects) ++ drop l.rect-index l.rects
