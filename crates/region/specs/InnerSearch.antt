-- Inside the crate: the edges of rectangles in order.
use Rattle.std.specs.Prelude.{ℤ, ◌≤ℤ◌, List}
use Rattle.std.specs.List.{AllPairs}
use Rattle.geom_base.specs.declared.rect.Rect.{Rect}
use Rattle.region.specs.declared.search.Edge.{Edge}
use Rattle.region.specs.declared.search.Edge.TheVariants.{Top, Right, Bottom}

-- where an edge of a rectangle is
abbrev pub edge_of : Edge → Rect → ℤ
edge_of Top r = r.top
edge_of Right r = r.right
edge_of Bottom r = r.bottom

-- the edges of later rectangles are at later places or the same
abbrev pub AreSorted : Edge → List Rect → Type 0
AreSorted edge rects = AllPairs (λ a b. edge_of edge a ≤ℤ edge_of edge b) rects
