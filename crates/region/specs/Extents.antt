-- The smallest rectangle that has all points of some rectangles.
use Rattle.std.specs.Prelude.{List, IsTrue}
use Rattle.geom_base.specs.declared.point.Point.{Point}
use Rattle.geom_base.specs.declared.rect.Rect.{Rect}
use Rattle.geom_base.specs.Points.{is_in, is_in_some}

-- each rectangle lies within it, and it lies within every rectangle that has all their points
pub record AreExtents (rects : List Rect) (extents : Rect) : Type 0 where
  pub within : (p : Point) → IsTrue (is_in_some p rects) → IsTrue (is_in p extents)
  pub least : (other : Rect) → ((p : Point) → IsTrue (is_in_some p rects) → IsTrue (is_in p other)) → (p : Point) → IsTrue (is_in p extents) →
      IsTrue (is_in p other)
