-- Inner: drawings that give all points one value.
use Rattle.std.specs.Prelude.{ℕ, List, Bool, ◌≡◌, ◌<◌, ◌*◌, ◌/◌, ◌^◌, ◌==◌}
use Rattle.std.specs.Int.{bit_at}
use Rattle.std.specs.List.{list_all, range_with_len}
use Rattle.geom_base.specs.declared.point.Point.{Point}
use Rattle.geom_base.specs.declared.size.Size.{Size}
use Rattle.pix_format.specs.declared.format.Format.{Format}
use Rattle.pix_format.specs.Value.{bits_of}
use Rattle.blt_kernel.specs.InnerDrawing.{drawn_value}
use Rattle.blt_kernel.specs.declared.drawing.Drawing.{Drawing}

-- the four results for a pattern bit are those for source 0 and old value 0
abbrev pub takes_pattern_alone : ℕ → Bool
takes_pattern_alone code = list_all (λ k. bit_at code k == bit_at code (4 * (k / 4))) (range_with_len 0 8)

-- each point gets this value, whatever the target's size and values
pub record FillsWith (d : Drawing) (format : Format) (value : ℕ) : Type 0 where
  pub each : (size : Size) (values : List ℕ) (p : Point) (old : ℕ) → drawn_value d size format values p old ≡ value
  pub fits : value < 2 ^ bits_of format
