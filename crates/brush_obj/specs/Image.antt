-- What a pattern is: a copy of a surface, with the background colour that was in force when it was made.
use Rattle.std.specs.Prelude.{ℕ, List, All, length, ◌≡◌, ◌<◌, ◌≤◌, ◌*◌, ◌^◌}
use Rattle.geom_base.specs.declared.size.Size.{Size}
use Rattle.pix_format.specs.declared.rgb.Rgb.{Rgb}
use Rattle.pix_format.specs.Value.{bits_of, colours_of}
use Rattle.pix_format.specs.declared.format.Format.{Format}

pub record Image : Type 0 where
  pub size : Size
  pub format : Format
  pub table : List Rgb
  pub values : List ℕ
  pub back : Rgb

-- the most pixels of a side of a pattern
abbrev pub most_pattern_side : ℕ
most_pattern_side = 64

-- the sides that a pattern may have
abbrev pub HasPatternSides : Size → Type 0
HasPatternSides size = (1 ≤ size.w) × (size.w ≤ most_pattern_side) × (1 ≤ size.h) × (size.h ≤ most_pattern_side)

-- the table fits the format, and there is a value for each pixel, each with at most the format's bits
pub record IsImage (i : Image) : Type 0 where
  pub table : length i.table ≡ colours_of i.format
  pub len : length i.values ≡ i.size.w * i.size.h
  pub fits : All (λ v. v < 2 ^ bits_of i.format) i.values
