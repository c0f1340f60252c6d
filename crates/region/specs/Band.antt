-- Bands: from a row on, a set of columns.
use Rattle.std.specs.Prelude.{◌≡◌, ℤ, List, [], ◌∷◌, ◌++◌, Bool, if◌then◌else◌}
use Rattle.geom_base.specs.declared.point.Point.{Point}
use Rattle.geom_base.specs.declared.rect.Rect.{Rect}
use Rattle.region.specs.Steps.{Step}
use Rattle.region.specs.Steps.{value_at, final_value, AllValid, IsReduced}
use Rattle.region.specs.Columns.{Columns, has_column, HasColumns}

-- from a row on, the columns of the set
abbrev pub Bands : Type 0
Bands = List (Step Columns)

-- a point is in the set
abbrev pub has_point : Bands → Point → Bool
has_point bands p = has_column (value_at [] bands p.y) p.x

-- the bands are in order and touching ones differ, and so are the columns of each; both are finite
pub record IsCanonical (bands : Bands) : Type 0 where
  pub reduced : IsReduced has_column [] bands
  pub values : AllValid HasColumns bands
  pub ends : final_value [] bands ≡ []

-- the rectangle of two steps in a row, where the first begins columns of the set
abbrev pub span_rects : ℤ → ℤ → Step Bool → Step Bool → List Rect
span_rects top bottom s t = if s.value then record { left = s.from; top = top; right = t.from; bottom = bottom } ∷ [] else []

-- the rectangles of a band, given its columns
abbrev pub row_rects : ℤ → ℤ → List (Step Bool) → List Rect
row_rects top bottom [] = []
row_rects top bottom (s ∷ []) = []
row_rects top bottom (s ∷ t ∷ steps) = span_rects top bottom s t ++ row_rects top bottom (t ∷ steps)

-- the rectangles of bands
abbrev pub rects_of : Bands → List Rect
rects_of [] = []
rects_of (b ∷ []) = []
rects_of (b ∷ c ∷ bands) = row_rects b.from c.from b.value ++ rects_of (c ∷ bands)
