-- Inner: points of a source or a mask that belong to points of a target.
use Rattle.std.specs.Prelude.{ℕ, ℤ, pos, ◌+ℤ◌, ◌-ℤ◌, ◌≤ℤ◌, List}
use Rattle.geom_base.specs.declared.point.Point.{Point}
use Rattle.geom_base.specs.declared.size.Size.{Size}
use Rattle.geom_base.specs.Grid.{value_of_point}
use Rattle.brush_obj.specs.Calls.{point_across}
use Rattle.blt_kernel.specs.declared.shift.Shift.{Shift}

-- the coordinate that belongs to one of the target, where `at` belongs to the corner's
abbrev pub place_shifted : ℤ → ℤ → ℤ → ℤ
place_shifted corner at x = (x -ℤ corner) +ℤ at

-- what belongs to the points of a box lies in a surface of a size
pub record Reaches (shift : Shift) (size : Size) (left top right bottom : ℕ) : Type 0 where
  pub from_left : pos 0 ≤ℤ place_shifted shift.rect.left shift.at.x (pos left)
  pub to_right : place_shifted shift.rect.left shift.at.x (pos right) ≤ℤ pos size.w
  pub from_top : pos 0 ≤ℤ place_shifted shift.rect.top shift.at.y (pos top)
  pub to_bottom : place_shifted shift.rect.top shift.at.y (pos bottom) ≤ℤ pos size.h

-- the value that belongs to a point
abbrev pub value_shifted : Shift → Size → List ℕ → Point → ℕ
value_shifted shift size values p = value_of_point size values (point_across shift.rect shift.at p)
