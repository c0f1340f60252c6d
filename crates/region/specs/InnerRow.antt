-- Inside the crate: what stands in a row of some columns.
use Rattle.std.specs.Prelude.{◌+◌, ◌-◌, ◌≤◌, ℕ, true, false, ◌&&◌, if◌then◌else◌}
use Rattle.region.specs.declared.row.Row.{Row}

-- all columns are covered
abbrev pub full_row : ℕ → Row
full_row size = record { filled = size; runs = 1; first = true; last = true }

-- no column is covered
abbrev pub empty_row : Row
empty_row = record { filled = 0; runs = 0; first = false; last = false }

-- two rows side by side, where runs that touch are one
abbrev pub beside : Row → Row → Row
beside a b = record { filled = a.filled + b.filled; runs = a.runs + b.runs - (if a.last && b.first then 1 else 0); first = a.first; last = b.last }

-- the numbers of a row of so many cells
pub record IsSound (row : Row) (size : ℕ) : Type 0 where
  pub filled : row.filled ≤ size
  pub runs : row.runs ≤ row.filled
  pub first : (if row.first then 1 else 0) ≤ row.runs
