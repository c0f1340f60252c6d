-- Runs of pixels in one row.
use Rattle.std.specs.Prelude.{ℕ, pos, ◌+◌, ◌-◌, ◌+ℤ◌, List, Option, Some, slice_index, unsigned_abs}
use Rattle.geom_base.specs.declared.point.Point.{Point}
use Rattle.geom_base.specs.declared.rect.Rect.{Rect}
use Rattle.geom_base.specs.declared.size.Size.{Size}
use Rattle.geom_base.specs.Grid.{value_at}
pub use Rattle.geom_base.specs.Points.{box_of}

-- so many pixels of a row, from a point on
abbrev pub run_of : Point → ℕ → Rect
run_of at len = record { left = at.x; top = at.y; right = at.x +ℤ pos len; bottom = at.y +ℤ pos 1 }

-- the change to the values of a list, whose first one stands at a column
abbrev pub listed : List ℕ → ℕ → Point → ℕ → Option ℕ
listed values left p d = Some (slice_index values (unsigned_abs p.x - left))

-- the change to one value
abbrev pub solid : ℕ → Point → ℕ → Option ℕ
solid value p d = Some value

-- the change to the values of a surface from a point on, whose value belongs to the point `at`
abbrev pub copied : Size → List ℕ → Point → Point → Point → ℕ → Option ℕ
copied size values from at p d = Some (value_at size values (unsigned_abs from.x + (unsigned_abs p.x - unsigned_abs at.x)) (unsigned_abs from.y))
