-- Inside the crate: how far a loop over spans has come.
use Rattle.std.specs.Prelude.{ℤ, ◌≤ℤ◌, List, Bool, FitsSigned}
use Rattle.std.specs.Int.{w32}
use Rattle.std.specs.List.{All}
use Rattle.region.specs.declared.span.Span.{Span}
use Rattle.region.specs.Steps.{Step}
use Rattle.region.specs.Columns.{column}
use Rattle.region.specs.InnerRuns.{AreRuns}
use Rattle.region.specs.Spans.{in_spans}

-- the steps of spans, the last of which ends at a place
pub record AreSpanRuns (spans : List Span) (end : ℤ) (steps : List (Step Bool)) : Type 0 where
  pub runs : AreRuns column (λ b. Unit {0}) end (λ y x. in_spans y spans) steps
  pub below : (y : ℤ) → FitsSigned w32 y → All (λ s. s.right ≤ℤ y) spans → end ≤ℤ y
