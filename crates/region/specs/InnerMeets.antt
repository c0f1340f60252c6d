-- Inside the crate: the points of a region that are in a rectangle.
use Rattle.std.specs.Prelude.{◌≡◌, ℤ, ◌<ℤ◌, ◌≤ℤ◌, IsTrue, List}
use Rattle.std.specs.List.{All}
use Rattle.geom_base.specs.declared.point.Point.{Point}
use Rattle.geom_base.specs.declared.rect.Rect.{Rect}
use Rattle.geom_base.specs.Points.{is_in, is_in_some}
use Rattle.region.specs.Order.{IsInOrder}
use Rattle.region.specs.InnerCursor.{in_columns}

-- a band has a column from one on to before another
pub record HasColumnIn (band : List Rect) (left right : ℤ) : Type 0 where
  pub place : ℤ
  pub held : IsTrue (in_columns place band)
  pub from : left ≤ℤ place
  pub before : place <ℤ right

-- the rectangles that are left have all of a region's points in a rectangle, and all end below its top
pub record IsLeft (rects : List Rect) (rect : Rect) (rest : List Rect) : Type 0 where
  pub order : IsInOrder rest
  pub ahead : All (λ r. rect.top <ℤ r.bottom) rest
  pub points : (p : Point) → IsTrue (is_in p rect) → is_in_some p rest ≡ is_in_some p rects
