-- How many rectangles a region has.
use Rattle.std.specs.Prelude.{◌≡◌, ◌≤◌, ◌+◌, ◌-◌, ◌*◌, length, List, [], ◌∷◌, Bool, ◌&&◌, not}
use Rattle.std.specs.List.{All}
use Rattle.geom_base.specs.declared.point.Point.{Point}
use Rattle.geom_base.specs.declared.rect.Rect.{Rect}
use Rattle.geom_base.specs.Points.{is_in, is_in_some, HasPoints}
use Rattle.region.specs.Region.{IsRegionOf}

-- a rectangle with points is the list of its points
abbrev pub RectIsRegion : Type 0
RectIsRegion = (r : Rect) → HasPoints r → IsRegionOf (λ p. is_in p r) (r ∷ [])

-- whether a point is in the set depends only on which of the rectangles it is in
abbrev pub IsMadeOf : List Rect → (Point → Bool) → Type 0
IsMadeOf parts set = (p q : Point) → All (λ r. is_in p r ≡ is_in q r) parts → set p ≡ set q

-- a set that is made of n rectangles has at most n (2 n - 1)
abbrev pub MadeOfIsFew : Type 0
MadeOfIsFew = (parts rects : List Rect) (set : Point → Bool) → IsMadeOf parts set → IsRegionOf set rects →
    length rects ≤ length parts * (2 * length parts - 1)

-- a rectangle less n others has at most (n + 1) (2 n + 1)
abbrev pub DifferenceIsFew : Type 0
DifferenceIsFew = (r : Rect) (others rects : List Rect) → IsRegionOf (λ p. is_in p r && not (is_in_some p others)) rects →
    length rects ≤ (length others + 1) * (2 * length others + 1)
