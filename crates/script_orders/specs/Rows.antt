-- Points in a row.
use Rattle.std.specs.Prelude.{ℕ, ℤ, pos, ◌+ℤ◌, if◌then◌else◌, int_le}
use Rattle.geom_base.specs.declared.point.Point.{Point}
use Rattle.geom_base.specs.declared.rect.Rect.{Rect}

-- the greatest number of 32 bits
abbrev pub greatest_column : ℤ
greatest_column = pos 2147483647

-- the column behind so many from one on, but not past the greatest
abbrev pub row_end : ℤ → ℕ → ℤ
row_end x n = if int_le (x +ℤ pos n) greatest_column then x +ℤ pos n else greatest_column

-- so many points in a row from a point on
abbrev pub row_rect : Point → ℕ → Rect
row_rect at n = record { left = at.x; top = at.y; right = row_end at.x n; bottom = at.y +ℤ pos 1 }

abbrev pub zero_point : Point
zero_point = record { x = pos 0; y = pos 0 }
