-- Inside the crate: how the smallest rectangle around others is found, and what a region keeps.
use Rattle.std.specs.Prelude.{◌↔◌, ◌≤◌, ◌≤ℤ◌, length, List}
use Rattle.std.specs.List.{All}
use Rattle.geom_base.specs.declared.rect.Rect.{Rect}
use Rattle.region.specs.Limits.{most_rects}
use Rattle.region.specs.Region.{IsRegion}
use Rattle.region.specs.Extents.{AreExtents}

-- no edge of a rectangle is outside the other
pub record Surrounds (outer r : Rect) : Type 0 where
  pub left : outer.left ≤ℤ r.left
  pub top : outer.top ≤ℤ r.top
  pub right : r.right ≤ℤ outer.right
  pub bottom : r.bottom ≤ℤ outer.bottom

-- what surrounds the rectangle and the rest is what surrounds all
abbrev pub IsAround : List Rect → List Rect → Rect → Type 0
IsAround rects rest r = (outer : Rect) → (Surrounds outer r × All (Surrounds outer) rest) ↔ All (Surrounds outer) rects

-- what a region keeps
pub record IsKeptRegion (rects : List Rect) (smallest : Rect) : Type 0 where
  pub region : IsRegion rects
  pub few : length rects ≤ most_rects
  pub extents : AreExtents rects smallest
