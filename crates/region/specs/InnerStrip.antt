-- Inside the crate: the columns from one edge to before another, and what stands in a row of them.
use Rattle.std.specs.Prelude.{◌-ℤ◌, ℤ, pos, Bool, ◌&&◌, if◌then◌else◌, int_lt, int_le}
use Rattle.std.specs.Int.{int_max}
use Rattle.region.specs.InnerRow.{full_row}
use Rattle.region.specs.declared.row.Row.{Row}
use Rattle.region.specs.declared.strip.Strip.{Strip}

-- a column is one of the strip's
abbrev pub within : Strip → ℤ → Bool
within s x = int_le s.from x && int_lt x s.to

-- a strip at a row, given what stands there where it is not covered as a whole, and until when
abbrev pub seen_at : ℤ → Row → ℤ → Strip → Strip
seen_at y row steady s = if int_lt y s.until then record s { row = full_row s.size; steady = s.until -ℤ pos 1 } else record s { row = row; steady = steady }

-- a strip that is covered as a whole before a row
abbrev pub covered_until : ℤ → Strip → Strip
covered_until bottom s = record s { until = int_max s.until bottom; row = full_row s.size; steady = int_max s.until bottom -ℤ pos 1 }
