-- Rectangles of a surface as lists of values, row by row.
use Rattle.std.specs.Prelude.{ℕ, ◌≡◌, List, Some}
use Rattle.geom_base.specs.declared.point.Point.{Point}
use Rattle.geom_base.specs.declared.rect.Rect.{Rect}
use Rattle.geom_base.specs.declared.size.Size.{Size}
use Rattle.geom_base.specs.Grid.{grid_of, value_of_point}
use Rattle.geom_base.specs.Points.{corner_of, height_of, moved, moved_back, point_at, sides_of, width_of}
use Rattle.geom_base.specs.Step.{Change}

-- the values that the points of a rectangle have in a surface
unfoldable pub rect_values : Rect → Size → List ℕ → List ℕ
rect_values r size values = grid_of (width_of r) (height_of r) (λ x y. value_of_point size values (moved (point_at x y) (corner_of r)))

-- a list is these values
abbrev pub ReadsRect : Rect → Size → List ℕ → List ℕ → Type 0
ReadsRect r size values out = out ≡ rect_values r size values

-- the change that gives each point the value it has in a surface
abbrev pub as_in : Size → List ℕ → Change
as_in size values p d = Some (value_of_point size values p)

-- the same, from a surface whose first point belongs to a corner
abbrev pub as_in_at : Point → Size → List ℕ → Change
as_in_at corner size values p = as_in size values (moved_back corner p)

-- the change that gives each point of a rectangle the value of its place in a list
abbrev pub with_values : Rect → List ℕ → Change
with_values r values = as_in_at (corner_of r) (sides_of r) values
