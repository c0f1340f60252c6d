-- Inside the crate: the spans of a row as steps.
use Rattle.std.specs.Prelude.{ℤ, List, [], ◌∷◌, ◌++◌, Bool, true, false, if◌then◌else◌}
use Rattle.geom_base.specs.declared.rect.Rect.{Rect}
use Rattle.region.specs.Steps.{Step}
use Rattle.region.specs.Columns.{Columns}
use Rattle.region.specs.declared.span.Span.{Span}
use Rattle.region.specs.declared.span_list.SpanList.{SpanList}

-- the columns of a rectangle
abbrev pub span_of : Rect → Span
span_of r = record { left = r.left; right = r.right }

-- a step where each span begins, and one where it ends
abbrev pub span_steps : List Span → Columns
span_steps [] = []
span_steps (s ∷ spans) = record { from = s.left; value = true } ∷ record { from = s.right; value = false } ∷ span_steps spans

-- the step where a span has begun
abbrev pub begun_step : Bool → ℤ → Columns
begun_step inside left = if inside then record { from = left; value = true } ∷ [] else []

-- the steps so far
abbrev pub steps_of : SpanList → Columns
steps_of list = span_steps list.spans.items ++ begun_step list.inside list.left

-- a step where the value changes
abbrev pub change : Bool → Bool → ℤ → List (Step Bool)
change true true x = []
change true false x = record { from = x; value = false } ∷ []
change false true x = record { from = x; value = true } ∷ []
change false false x = []
