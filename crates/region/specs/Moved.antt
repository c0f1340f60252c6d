-- Regions moved.
use Rattle.std.specs.Prelude.{map, List, Bool}
use Rattle.geom_base.specs.declared.point.Point.{Point}
use Rattle.geom_base.specs.declared.rect.Rect.{Rect}
use Rattle.geom_base.specs.Points.{moved_back, moved_rect}
use Rattle.region.specs.Region.{IsRegionOf}

-- the list of a set, moved, is the list of the set moved
abbrev pub RegionMoves : Type 0
RegionMoves = (set : Point → Bool) (rects : List Rect) (by : Point) → IsRegionOf set rects →
    IsRegionOf (λ p. set (moved_back by p)) (map (λ r. moved_rect r by) rects)
