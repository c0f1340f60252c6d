-- The points of the hatches, in tiles of eight by eight, and hatches in two values.
use Rattle.std.specs.Prelude.{ℕ, Bool, ◌+◌, ◌==◌, ◌||◌, ◌<◌, ◌^◌, if◌then◌else◌}
use Rattle.geom_base.specs.declared.point.Point.{Point}
use Rattle.pix_format.specs.declared.format.Format.{Format}
use Rattle.pix_format.specs.Value.{bits_of}
use Rattle.brush_obj.specs.declared.hatch.Hatch.{Hatch}
use Rattle.brush_obj.specs.declared.hatch.Hatch.TheVariants.{Horizontal, Vertical, FDiagonal, BDiagonal, Cross, DiagCross}
use Rattle.brush_obj.specs.declared.hatch_values.HatchValues.{HatchValues}
use Rattle.brush_obj.specs.Wrapping.{from_origin, wrapped}

-- the point at column x of row y is in the hatch: on the line through the middle across or down, on the diagonal that falls or
-- rises to the right, or on one of two of these
abbrev pub in_hatch : Hatch → ℕ → ℕ → Bool
in_hatch Horizontal x y = y == 4
in_hatch Vertical x y = x == 4
in_hatch FDiagonal x y = x == y
in_hatch BDiagonal x y = x + y == 7
in_hatch Cross x y = (y == 4) || (x == 4)
in_hatch DiagCross x y = (x == y) || (x + y == 7)

-- the value at column x of row y of the tile of a hatch in two values
abbrev pub hatch_value : HatchValues → ℕ → ℕ → ℕ
hatch_value h x y = if in_hatch h.kind x y then h.fore else h.back

-- the value at a point counted from the origin: the tile repeats in all directions
abbrev pub tiled_hatch : HatchValues → Point → ℕ
tiled_hatch h q = hatch_value h (wrapped q.x 8) (wrapped q.y 8)

-- the value at a point
abbrev pub value_of_hatch : HatchValues → Point → Point → ℕ
value_of_hatch h origin p = tiled_hatch h (from_origin origin p)

-- both values are of a format
pub record HatchFits (format : Format) (h : HatchValues) : Type 0 where
  pub fore : h.fore < 2 ^ bits_of format
  pub back : h.back < 2 ^ bits_of format
