-- The order of a region's rectangles.
use Rattle.std.specs.Prelude.{◌≡◌, ◌<ℤ◌, ◌≤ℤ◌, ◌⊎◌, List}
use Rattle.std.specs.List.{All, AllPairs}
use Rattle.geom_base.specs.declared.rect.Rect.{Rect}
use Rattle.geom_base.specs.Points.{HasPoints}
use Rattle.region.specs.Region.{IsRegion}

-- one is to the left in the same band and does not touch the other, or is in a higher band
abbrev pub ComesFirst : Rect → Rect → Type 0
ComesFirst a b = ((a.top ≡ b.top) × (a.bottom ≡ b.bottom) × (a.right <ℤ b.left)) ⊎ (a.bottom ≤ℤ b.top)

-- each rectangle has points and comes before all later ones
pub record IsInOrder (rects : List Rect) : Type 0 where
  pub order : AllPairs ComesFirst rects
  pub points : All HasPoints rects

-- so are the rectangles of every region
abbrev pub RegionIsInOrder : Type 0
RegionIsInOrder = (rects : List Rect) → IsRegion rects → IsInOrder rects
