use Rattle.std.proofs.Common.{◌≡◌, take, false}
use Rattle.geom_base.specs.Points.{is_in_some}
use Rattle.region.proofs.rect_list.any_holds.Given as goal

abbrev pub invariant-loop-rect : goal.invariant-loop-rect
invariant-loop-rect l = is_in_some l.p (take l.rect-index l.rects) ≡ false
