-- The formats whose values hold the channels.
use Rattle.std.specs.Prelude.{ℕ, ◌+◌, ◌*◌, ◌/◌, ◌%◌}
use Rattle.pix_format.specs.declared.rgb.Rgb.{Rgb}

-- a channel of five or of six bits as one of eight
abbrev pub widened5 : ℕ → ℕ
widened5 c = c * 8 + c / 4

abbrev pub widened6 : ℕ → ℕ
widened6 c = c * 4 + c / 16

-- red in bits 14 to 10, green in 9 to 5, blue in 4 to 0
abbrev pub packed555 : Rgb → ℕ
packed555 c = c.r / 8 * 1024 + c.g / 8 * 32 + c.b / 8

-- and the colour of such a value; bit 15 is no part of it
abbrev pub unpacked555 : ℕ → Rgb
unpacked555 v = record { r = widened5 (v / 1024 % 32); g = widened5 (v / 32 % 32); b = widened5 (v % 32) }

-- red in bits 15 to 11, green in 10 to 5, blue in 4 to 0
abbrev pub packed565 : Rgb → ℕ
packed565 c = c.r / 8 * 2048 + c.g / 4 * 32 + c.b / 8

-- and the colour of such a value
abbrev pub unpacked565 : ℕ → Rgb
unpacked565 v = record { r = widened5 (v / 2048 % 32); g = widened6 (v / 32 % 64); b = widened5 (v % 32) }

-- red in bits 23 to 16, green in 15 to 8, blue in 7 to 0
abbrev pub packed888 : Rgb → ℕ
packed888 c = c.r * 65536 + c.g * 256 + c.b

-- and the colour of such a value; the bits above are no part of it
abbrev pub unpacked888 : ℕ → Rgb
unpacked888 v = record { r = v / 65536 % 256; g = v / 256 % 256; b = v % 256 }
