-- Clips.
use Rattle.std.specs.Prelude.{◌≡◌, ◌≤ℤ◌, ◌-ℤ◌, pos, ◌&&◌, List, Bool, true, Option, Some, None}
use Rattle.std.specs.Borrow.{Bor}
use Rattle.std.specs.List.{All, AllPairs}
use Rattle.geom_base.specs.declared.point.Point.{Point}
use Rattle.geom_base.specs.declared.rect.Rect.{Rect}
use Rattle.geom_base.specs.Points.{is_in, is_in_some, moved, moved_rect, AreApart}
use Rattle.region.specs.Region.{IsRegionOf}

-- a rectangle lies within another
pub record LiesWithin (outer r : Rect) : Type 0 where
  pub left : outer.left ≤ℤ r.left
  pub across : r.left ≤ℤ r.right
  pub right : r.right ≤ℤ outer.right
  pub top : outer.top ≤ℤ r.top
  pub down : r.top ≤ℤ r.bottom
  pub bottom : r.bottom ≤ℤ outer.bottom

-- its bounds, its rectangles as a region lists them, and those that are still to be handed out, in their order; of every clip the
-- rectangles lie within the bounds, and no two share a point
pub record Clip : Type 0 where
  pub bounds : Rect
  pub rects : List Rect
  pub left : List Rect
  pub inside : All (LiesWithin bounds) rects
  pub apart : AllPairs AreApart rects

-- a region allows its points, and no region allows all
abbrev pub allows : Option (Bor (List Rect)) → Point → Bool
allows (Some region) p = is_in_some p region.now
allows None p = true

-- the clip of a region and bounds, of which nothing was handed out
pub record IsClipOf (region : Option (Bor (List Rect))) (frame : Rect) (c : Clip) : Type 0 where
  pub bounds : c.bounds ≡ frame
  pub rects : IsRegionOf (λ p. allows region p && is_in p frame) c.rects
  pub left : c.left ≡ c.rects

-- the move that brings a point to 0 0
abbrev pub to_origin : Point → Point
to_origin at = record { x = pos 0 -ℤ at.x; y = pos 0 -ℤ at.y }

-- the same seen from a point, which is 0 0 there
pub record IsClipAt (region : Option (Bor (List Rect))) (frame : Rect) (at : Point) (c : Clip) : Type 0 where
  pub bounds : c.bounds ≡ moved_rect frame (to_origin at)
  pub rects : IsRegionOf (λ p. allows region (moved p at) && is_in p (moved_rect frame (to_origin at))) c.rects
  pub left : c.left ≡ c.rects
