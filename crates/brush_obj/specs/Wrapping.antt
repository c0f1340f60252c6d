-- Points counted from an origin, and the remainder that is never negative.
use Rattle.std.specs.Prelude.{ℕ, ℤ, pos, ◌-ℤ◌, unsigned_abs}
use Rattle.std.specs.Int.{int_rem_euclid}
use Rattle.geom_base.specs.declared.point.Point.{Point}

-- a number modulo a size: how far it is above the last multiple of the size that is not above it
abbrev pub wrapped : ℤ → ℕ → ℕ
wrapped z size = unsigned_abs (int_rem_euclid z (pos size))

-- a point counted from an origin
abbrev pub from_origin : Point → Point → Point
from_origin origin p = record { x = p.x -ℤ origin.x; y = p.y -ℤ origin.y }
