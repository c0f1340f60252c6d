-- What a drawing does: each point of an area takes its new value, all at once from the old values.
use Rattle.std.specs.Prelude.{ℕ, ◌+◌, List, [], ◌∷◌, Bool, false, Option, None, unwrap_or, if◌then◌else◌}
use Rattle.geom_base.specs.declared.point.Point.{Point}
use Rattle.geom_base.specs.declared.size.Size.{Size}
use Rattle.geom_base.specs.Grid.{point_of}

-- a set of points
abbrev pub Area : Type 0
Area = Point → Bool

-- a new value at a point, from the old one, or none: untouched
abbrev pub Change : Type 0
Change = Point → ℕ → Option ℕ

-- no point at all
abbrev pub nowhere : Area
nowhere p = false

-- no new value anywhere
abbrev pub untouched : Change
untouched p old = None

-- the new value where there is one, or the old one
abbrev pub value_after : Change → Point → ℕ → ℕ
value_after new p d = unwrap_or (new p d) d

-- f at each place and value, the first place being n
unfoldable pub map_from : (ℕ → ℕ → ℕ) → ℕ → List ℕ → List ℕ
map_from f n [] = []
map_from f n (v ∷ vs) = f n v ∷ map_from f (n + 1) vs

-- the value after a step at a place that had the value v
abbrev pub step_at : ℕ → Area → Change → ℕ → ℕ → ℕ
step_at w area new i v = if area (point_of w i) then value_after new (point_of w i) v else v

-- the values after a step
unfoldable pub redrawn : Size → List ℕ → Area → Change → List ℕ
redrawn size values area new = map_from (step_at size.w area new) 0 values
