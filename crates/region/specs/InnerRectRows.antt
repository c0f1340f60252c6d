-- Inside the crate: rectangles that lie in rows, from top to bottom and in a row from left to right.
use Rattle.std.specs.Prelude.{◌≡◌, ℤ, ◌<ℤ◌, ◌≤ℤ◌, List, ◌++◌}
use Rattle.std.specs.List.{All}
use Rattle.geom_base.specs.declared.rect.Rect.{Rect}
use Rattle.region.specs.declared.span.Span.{Span}
use Rattle.region.specs.declared.builder.RegionBuilder.{RegionBuilder}
use Rattle.region.specs.Spans.{AreSpans, rects_of_spans}
use Rattle.region.specs.Builder.{HasRows}

-- a rectangle has columns from a place on, and the rows of another
pub record IsNext (row : Rect) (end : ℤ) (r : Rect) : Type 0 where
  pub top : r.top ≡ row.top
  pub bottom : r.bottom ≡ row.bottom
  pub from : end ≤ℤ r.left
  pub columns : r.left <ℤ r.right

-- the rectangles up to the rest have these spans, in a row and before a place
pub record IsRead (row : Rect) (rects : List Rect) (spans : List Span) (end : ℤ) (rest : List Rect) : Type 0 where
  pub are : AreSpans spans
  pub before : All (λ s. s.right ≤ℤ end) spans
  pub listed : rects_of_spans row.top row.bottom spans ++ rest ≡ rects

-- the rectangles up to the rest were pushed, in rows above one
pub record ArePushed (rects : List Rect) (builder : RegionBuilder) (end : ℤ) (rest : List Rect) : Type 0 where
  pub pushed : List Rect
  pub rows : HasRows pushed end builder
  pub all : pushed ++ rest ≡ rects
