-- The coordinates of a desktop's regions, and the points between them.
use Rattle.std.specs.Prelude.{◌≡◌, ℕ, zero, suc, ℤ, ◌+ℤ◌, ◌≤ℤ◌, pos, negsuc, List, [], ◌∷◌, Bool, true}
use Rattle.std.specs.List.{All}
use Rattle.geom_base.specs.declared.point.Point.{Point}
use Rattle.geom_base.specs.declared.rect.Rect.{Rect}
use Rattle.geom_base.specs.Points.{IsIn}

-- all points from the least edge to before the greatest
abbrev pub window : Rect
window = record { left = negsuc 32767; top = negsuc 32767; right = pos 32767; bottom = pos 32767 }

-- all points of a set lie there
abbrev pub IsWithinWindow : (Point → Bool) → Type 0
IsWithinWindow set = (p : Point) → set p ≡ true → IsIn p window

-- a coordinate is one of an edge
pub record IsEdge (z : ℤ) : Type 0 where
  pub least : window.left ≤ℤ z
  pub greatest : z ≤ℤ window.right

-- all edges of a rectangle are such coordinates
pub record HasEdges (r : Rect) : Type 0 where
  pub left : IsEdge r.left
  pub top : IsEdge r.top
  pub right : IsEdge r.right
  pub bottom : IsEdge r.bottom

-- and those of each rectangle
abbrev pub Within : List Rect → Type 0
Within rects = All HasEdges rects

-- so many places from one on
abbrev pub places_from : ℤ → ℕ → List ℤ
places_from z zero = []
places_from z (suc n) = z ∷ places_from (z +ℤ pos 1) n

-- all coordinates of edges, in order
unfoldable pub edges : List ℤ
edges = places_from window.left 65536
