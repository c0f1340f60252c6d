use Rattle.std.proofs.Common.{◌≡◌, ◌++◌, map, take, drop}
use Rattle.geom_base.specs.Points.{moved_rect}
use Rattle.clip_obj.specs.Clip.{to_origin}
use Rattle.clip_obj.proofs.moved.move_to_origin.Given as goal

-- the first ones are moved
abbrev pub invariant-loop-i : goal.invariant-loop-i
invariant-loop-i l = l.rects ≡ map (λ r. moved_rect r (to_origin l.at)) (take l.i l.fn.rects) ++ drop l.i l.fn.rects
