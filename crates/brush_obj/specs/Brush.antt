-- The value that a brush has at a point.
use Rattle.std.specs.Prelude.{ℕ, List, ◌≡◌, Bool, true, false, if◌then◌else◌}
use Rattle.geom_base.specs.declared.point.Point.{Point}
use Rattle.geom_base.specs.declared.size.Size.{Size}
use Rattle.geom_base.specs.Grid.{grid_of, value_at}
use Rattle.pix_format.specs.declared.format.Format.{Format}
use Rattle.pix_format.specs.declared.rgb.Rgb.{Rgb}
use Rattle.pix_format.specs.Value.{value_of}
use Rattle.pix_format.specs.Translate.{convert, same_kind}
use Rattle.geom_base.specs.Points.{point_at}
use Rattle.brush_obj.specs.declared.face.BrushFace.{BrushFace}
use Rattle.brush_obj.specs.declared.face.BrushFace.TheVariants.{Solid, Hatch, Pattern}
use Rattle.brush_obj.specs.Hatches.{in_hatch}
use Rattle.brush_obj.specs.Realised.{Realised}
use Rattle.brush_obj.specs.Wrapping.{from_origin, wrapped}

-- the size of the tile that a brush repeats: one pixel of a colour, eight by eight of a hatch, the pattern
abbrev pub size_of : BrushFace → Size
size_of (Solid colour) = record { w = 1; h = 1 }
size_of (Hatch kind fore back) = record { w = 8; h = 8 }
size_of (Pattern image) = image.size

-- a brush is a colour everywhere
abbrev pub is_solid : BrushFace → Bool
is_solid (Solid colour) = true
is_solid (Hatch kind fore back) = false
is_solid (Pattern image) = false

-- a brush looks the same on a surface of a format and a table as it is kept: it is no pattern, or one of that format and table
abbrev pub is_kept : BrushFace → Format → List Rgb → Bool
is_kept (Solid colour) format table = true
is_kept (Hatch kind fore back) format table = true
is_kept (Pattern image) format table = same_kind image.format image.table format table

-- The value at column x of row y of that tile, on a surface of a format and a table: that of the colour; that of the fore colour
-- in the hatch and else that of the back colour; or the pattern's own value, converted.
abbrev pub tile_value : BrushFace → Format → List Rgb → ℕ → ℕ → ℕ
tile_value (Solid colour) format table x y = value_of format table colour
tile_value (Hatch kind fore back) format table x y = value_of format table (if in_hatch kind x y then fore else back)
tile_value (Pattern image) format table x y =
    convert image.format image.table format table image.back (value_at image.size image.values x y)

-- the value at a point counted from the origin: the tile repeats in all directions
abbrev pub tiled : BrushFace → Format → List Rgb → Point → ℕ
tiled face format table q = tile_value face format table (wrapped q.x (size_of face).w) (wrapped q.y (size_of face).h)

-- the value at a point
abbrev pub brush_value : BrushFace → Format → List Rgb → Point → Point → ℕ
brush_value face format table origin p = tiled face format table (from_origin origin p)

-- the realised brush: the values over the brush's own size, the origin being its first point
abbrev pub realised_values : BrushFace → Format → List Rgb → List ℕ
realised_values face format table =
    grid_of (size_of face).w (size_of face).h (λ x y. brush_value face format table (point_at 0 0) (point_at x y))

-- a realised brush is that of a brush on a surface of a format and a table
pub record IsRealised (face : BrushFace) (format : Format) (table : List Rgb) (r : Realised) : Type 0 where
  pub size : r.size ≡ size_of face
  pub values : r.values ≡ realised_values face format table

-- the value of a tile of values at a point counted from the origin: it repeats likewise
abbrev pub tiled_values : Size → List ℕ → Point → ℕ
tiled_values size values q = value_at size values (wrapped q.x size.w) (wrapped q.y size.h)
