-- What an operation on regions answers.
use Rattle.std.specs.Prelude.{◌≡◌, ◌<◌, ◌≤◌, length, List, Bool, Result, MatchResult}
use Rattle.geom_base.specs.declared.point.Point.{Point}
use Rattle.geom_base.specs.declared.rect.Rect.{Rect}
use Rattle.region.specs.Limits.{most_rects}
use Rattle.region.specs.declared.refusal.RegionRefusal.{RegionRefusal}
use Rattle.region.specs.declared.refusal.RegionRefusal.TheVariants.{TooMany, NoMemory}
use Rattle.region.specs.Region.{IsRegionOf}

-- the list of the set has too many rectangles, and this is their number; or there was no memory
abbrev pub Refuses : (Point → Bool) → RegionRefusal → Type 0
Refuses set (TooMany n) = (rects : List Rect) × IsRegionOf set rects × (n ≡ length rects) × (most_rects < n)
Refuses set NoMemory = Unit {0}

-- the region of the set, or why there is none
abbrev pub IsAnswer : (Point → Bool) → Result (List Rect) RegionRefusal → Type 0
IsAnswer set result = MatchResult result (λ rects. IsRegionOf set rects × (length rects ≤ most_rects)) (Refuses set)
