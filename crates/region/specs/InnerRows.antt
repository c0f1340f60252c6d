-- Inside the crate: the spans of a row from left to right, and what is left of the bands that they are made of.
use Rattle.std.specs.Prelude.{◌≡◌, ◌⊎◌, ℕ, ℤ, ◌<ℤ◌, ◌≤ℤ◌, List, take, drop, Bool, ◌&&◌, ◌||◌, not, [], ◌∷◌, int_le, int_lt}
use Rattle.std.specs.List.{All}
use Rattle.geom_base.specs.declared.rect.Rect.{Rect}
use Rattle.region.specs.Columns.{has_column}
use Rattle.region.specs.InnerColumns.{IsColumns}
use Rattle.region.specs.InnerSteps.{EndsBefore}
use Rattle.region.specs.InnerCursor.{AreInBand, in_columns}
use Rattle.region.specs.InnerSpanList.{span_steps}
use Rattle.region.specs.declared.span.Span.{Span}

-- spans that do not touch, and end before a column
pub record IsRow (end : ℤ) (spans : List Span) : Type 0 where
  pub columns : IsColumns (span_steps spans)
  pub before : EndsBefore end (span_steps spans)

-- the rectangles of a band that reach past a column
pub record IsPast (place : ℤ) (band rest : List Rect) : Type 0 where
  pub passed : ℕ
  pub is : rest ≡ drop passed band
  pub ended : All (λ r. r.right ≤ℤ place) (take passed band)
  pub ahead : All (λ r. place <ℤ r.right) rest

-- the spans so far, and the columns that what is left of two bands has in common, are a set
pub record IsMeeting (set : ℤ → Bool) (a b : List Rect) (spans : List Span) : Type 0 where
  pub first : AreInBand a
  pub second : AreInBand b
  pub points : (x : ℤ) → (has_column (span_steps spans) x || (in_columns x a && in_columns x b)) ≡ set x
  pub end : ℤ
  pub row : IsRow end spans
  pub later : All (λ r. end ≤ℤ r.left) a ⊎ All (λ r. end ≤ℤ r.left) b

-- the spans so far, and the columns that what is left of a band has in common with a rectangle, are a set; all that is left reaches into it
pub record IsCutting (set : ℤ → Bool) (bounds : Rect) (band : List Rect) (spans : List Span) : Type 0 where
  pub band_left : AreInBand band
  pub points : (x : ℤ) → (has_column (span_steps spans) x || (in_columns x band && in_columns x (bounds ∷ []))) ≡ set x
  pub ahead : All (λ r. bounds.left <ℤ r.right) band
  pub end : ℤ
  pub row : IsRow end spans
  pub later : All (λ r. end ≤ℤ r.left) band

-- where a rectangle ends for now: before the first of a band, or at its own end; and up to where all is known then
abbrev pub IsFree : Rect → List Rect → ℤ → ℤ → Type 0
IsFree r [] to end = (to ≡ r.right) × (end ≡ r.right)
IsFree r (q ∷ band) to end = ((q.left <ℤ r.right) × (to ≡ q.left) × (end ≡ q.right)) ⊎ ((r.right ≤ℤ q.left) × (to ≡ r.right) × (end ≡ r.right))

-- the spans so far, and the columns from a place on of what is left of one band and not of the other, are a set
pub record IsLessening (set : ℤ → Bool) (a b : List Rect) (place : ℤ) (spans : List Span) : Type 0 where
  pub first : AreInBand a
  pub second : AreInBand b
  pub points : (x : ℤ) → (has_column (span_steps spans) x || (int_le place x && (in_columns x a && not (in_columns x b)))) ≡ set x
  pub end : ℤ
  pub row : IsRow end spans
  pub later : (end ≤ℤ place) ⊎ All (λ r. end ≤ℤ r.left) a

-- a rectangle is the first of a band
abbrev pub IsFirst : Rect → List Rect → Type 0
IsFirst r [] = ⊥
IsFirst r (p ∷ band) = r ≡ p

-- the first rectangle of a band does not begin before a column
abbrev pub BeginsLater : ℤ → List Rect → Type 0
BeginsLater z [] = Unit {0}
BeginsLater z (p ∷ band) = z ≤ℤ p.left

-- a rectangle is the first of one band, and that of the other does not begin before it
pub record IsLeftmost (r : Rect) (a b : List Rect) : Type 0 where
  pub one : IsFirst r a ⊎ IsFirst r b
  pub first : BeginsLater r.left a
  pub second : BeginsLater r.left b

-- and this is what is left of both
pub record IsTaken (r : Rect) (a b rest_a rest_b : List Rect) : Type 0 where
  pub leftmost : IsLeftmost r a b
  pub rest : ((a ≡ r ∷ rest_a) × (rest_b ≡ b)) ⊎ ((b ≡ r ∷ rest_b) × (rest_a ≡ a))

-- the spans so far, one that has begun, and what is left of two bands are a set
pub record IsUniting (set : ℤ → Bool) (a b : List Rect) (from to : ℤ) (spans : List Span) : Type 0 where
  pub first : AreInBand a
  pub second : AreInBand b
  pub across : from <ℤ to
  pub first_from : All (λ r. from ≤ℤ r.left) a
  pub second_from : All (λ r. from ≤ℤ r.left) b
  pub points : (x : ℤ) → ((has_column (span_steps spans) x || (int_le from x && int_lt x to)) || (in_columns x a || in_columns x b)) ≡ set x
  pub row : IsRow from spans
