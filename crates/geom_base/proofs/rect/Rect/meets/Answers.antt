use Rattle.geom_base.specs.PointLaws.{first_is_in, has_point}
use Rattle.geom_base.proofs.rect.Rect.meets.Goals as goal

pub returns : goal.returns
returns c = (
  λ t.
      let h = c.has_points.ensures.points.0 t in
      let in_both = (c.intersect.ensures.common _).0 (first_is_in c.intersect.result h.across h.down) in
      record { point = _; first = in_both.0; second = in_both.1 },
  λ m. c.has_points.ensures.points.1 (has_point ((c.intersect.ensures.common m.point).1 (m.first, m.second))),
)
