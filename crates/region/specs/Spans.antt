-- The spans of a row.
use Rattle.std.specs.Prelude.{ℤ, ◌<ℤ◌, ◌≤ℤ◌, List, map, Bool, ◌&&◌, int_lt, int_le}
use Rattle.std.specs.List.{All, AllPairs, list_any}
use Rattle.geom_base.specs.declared.rect.Rect.{Rect}
use Rattle.region.specs.declared.span.Span.{Span}

-- a column is in one of the spans
abbrev pub in_spans : ℤ → List Span → Bool
in_spans x spans = list_any (λ s. int_le s.left x && int_lt x s.right) spans

-- each has columns, and ends where the next begins or before it
pub record AreSpans (spans : List Span) : Type 0 where
  pub columns : All (λ s. s.left <ℤ s.right) spans
  pub order : AllPairs (λ a b. a.right ≤ℤ b.left) spans

-- the rectangles of spans, in all rows from one to before another
abbrev pub rects_of_spans : ℤ → ℤ → List Span → List Rect
rects_of_spans top bottom spans = map (λ s. record { left = s.left; top = top; right = s.right; bottom = bottom }) spans
