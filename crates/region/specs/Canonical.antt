-- The canonical list of rectangles of a set whose points lie in the window, as a function of the set.
use Rattle.std.specs.Prelude.{◌≡◌, ◌<◌, ◌≤◌, ℤ, ◌-ℤ◌, pos, length, map, List, Bool, not, if◌then◌else◌, Result, Ok, Err}
use Rattle.std.specs.List.{filter, list_any}
use Rattle.geom_base.specs.declared.point.Point.{Point}
use Rattle.geom_base.specs.declared.rect.Rect.{Rect}
use Rattle.region.specs.Limits.{most_rects}
use Rattle.region.specs.declared.refusal.RegionRefusal.{RegionRefusal}
use Rattle.region.specs.declared.refusal.RegionRefusal.TheVariants.{TooMany, NoMemory}
use Rattle.region.specs.Steps.{Step}
use Rattle.region.specs.Columns.{Columns}
use Rattle.region.specs.Band.{Bands, rects_of}
use Rattle.region.specs.Region.{IsRegionOf}
use Rattle.region.specs.Refusal.{IsAnswer}
use Rattle.region.specs.Window.{edges, IsWithinWindow, Within}

-- the point of two coordinates
abbrev pub point_from : ℤ → ℤ → Point
point_from x y = record { x = x; y = y }

-- exactly one of the two
abbrev pub differ : Bool → Bool → Bool
differ a b = if a then not b else b

-- at each place where something changes, the value from there on
abbrev pub steps_where : {V : Type 0} → (ℤ → Bool) → (ℤ → V) → List ℤ → List (Step V)
steps_where changes value places = map (λ z. record { from = z; value = value z }) (filter changes places)

-- the columns of a row: a step wherever a point differs from the one before it
abbrev pub columns_of_row : (Point → Bool) → ℤ → Columns
columns_of_row set y = steps_where (λ x. differ (set (point_from (x -ℤ pos 1) y)) (set (point_from x y))) (λ x. set (point_from x y)) edges

-- some point of a row differs from the one above it
abbrev pub row_changes : (Point → Bool) → ℤ → Bool
row_changes set y = list_any (λ x. differ (set (point_from x (y -ℤ pos 1))) (set (point_from x y))) edges

-- the bands of a set: a step wherever a row differs from the one above it
abbrev pub bands_of_set : (Point → Bool) → Bands
bands_of_set set = steps_where (row_changes set) (columns_of_row set) edges

-- the list of a set
unfoldable pub canonical_rects : (Point → Bool) → List Rect
canonical_rects set = rects_of (bands_of_set set)

-- it is the list of the set
abbrev pub CanonicalIsOfSet : Type 0
CanonicalIsOfSet = (set : Point → Bool) → IsWithinWindow set → IsRegionOf set (canonical_rects set)

-- this list, or the number of its rectangles where these are too many; or there was no memory
abbrev pub Gives : List Rect → Result (List Rect) RegionRefusal → Type 0
Gives list (Ok rects) = (rects ≡ list) × (length list ≤ most_rects) × Within rects
Gives list (Err (TooMany n)) = (n ≡ length list) × (most_rects < length list)
Gives list (Err NoMemory) = Unit {0}

-- each answer of an operation gives it
abbrev pub AnswersAreCanonical : Type 0
AnswersAreCanonical = (set : Point → Bool) (result : Result (List Rect) RegionRefusal) → IsWithinWindow set → IsAnswer set result →
    Gives (canonical_rects set) result
