-- What a call draws a pattern with.
use Rattle.std.specs.Prelude.{ℕ, All, ◌<◌, ◌^◌}
use Rattle.geom_base.specs.declared.point.Point.{Point}
use Rattle.pix_format.specs.declared.format.Format.{Format}
use Rattle.pix_format.specs.Value.{bits_of}
use Rattle.brush_obj.specs.Brush.{tiled_values}
use Rattle.brush_obj.specs.Hatches.{HatchFits, tiled_hatch}
use Rattle.brush_obj.specs.declared.ink.Ink.{Ink}
use Rattle.brush_obj.specs.declared.ink.Ink.TheVariants.{Solid, Hatch, Tile}

-- the value at a point counted from the origin
abbrev pub ink_at : Ink → Point → ℕ
ink_at (Solid value) = λ q. value
ink_at (Hatch hatch) = tiled_hatch hatch
ink_at (Tile tile) = tiled_values tile.size tile.values.now

-- all its values are of a format
abbrev pub InkFits : Ink → Format → Type 0
InkFits (Solid value) format = value < 2 ^ bits_of format
InkFits (Hatch hatch) format = HatchFits format hatch
InkFits (Tile tile) format = All (λ v. v < 2 ^ bits_of format) tile.values.now
