-- The table that a format has where none is given.
use Rattle.std.specs.Prelude.{ℕ, ◌+◌, ◌*◌, ◌/◌, ◌%◌, List, map}
use Rattle.std.specs.List.{range_with_len}
use Rattle.pix_format.specs.declared.rgb.Rgb.{Rgb}
use Rattle.pix_format.specs.declared.format.Format.{Format}
use Rattle.pix_format.specs.declared.format.Format.TheVariants.{B1, B4}
use Rattle.pix_format.specs.Value.{colours_of}

-- a colour with all channels at one level
abbrev pub grey : ℕ → Rgb
grey level = record { r = level; g = level; b = level }

-- a channel of three or of two bits as one of eight
abbrev pub widened3 : ℕ → ℕ
widened3 c = c * 32 + c * 4 + c / 2

abbrev pub widened2 : ℕ → ℕ
widened2 c = 85 * c

-- the colour of an index: black and white; sixteen greys; red in bits 7 to 5, green in 4 to 2 and blue in 1 to 0
abbrev pub standard_colour : Format → ℕ → Rgb
standard_colour B1 i = grey (255 * i)
standard_colour B4 i = grey (17 * i)
standard_colour _ i = record { r = widened3 (i / 32); g = widened3 (i / 4 % 8); b = widened2 (i % 4) }

-- the colours of all indices
unfoldable pub standard_colours : Format → List Rgb
standard_colours format = map (standard_colour format) (range_with_len 0 (colours_of format))
