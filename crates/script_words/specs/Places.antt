-- Colours, points and rectangles: their values, or the first refusal.
use Rattle.std.specs.Prelude.{ℕ, ◌+◌, ◌/◌, ◌%◌, ℤ, ◌≤ℤ◌, int_le, List, Result, Ok, Bool, ◌&&◌}
use Rattle.geom_base.specs.declared.point.Point.{Point}
use Rattle.geom_base.specs.declared.rect.Rect.{Rect}
use Rattle.pix_format.specs.declared.rgb.Rgb.{Rgb}
use Rattle.script_words.specs.declared.refusal.Refusal.{Refusal}
use Rattle.script_words.specs.Asking.{◌>>=◌}
use Rattle.script_words.specs.Bounds.{least_coordinate, greatest_coordinate, greatest_point}
use Rattle.script_words.specs.Spelling.{hexadecimal_in, number_in}
use Rattle.script_words.specs.Lines.{word_at}

-- the colour with these 24 bits, red the highest eight
abbrev pub rgb_of : ℕ → Rgb
rgb_of bits = record { r = bits / 65536; g = bits / 256 % 256; b = bits % 256 }

-- RRGGBB
abbrev pub colour_in : List ℕ → Result Rgb Refusal
colour_in word = do
  bits ← hexadecimal_in 6 word
  Ok (rgb_of bits)

-- an edge of a rectangle
abbrev pub edge_in : List ℕ → Result ℤ Refusal
edge_in word = number_in least_coordinate greatest_coordinate word

-- and so is each edge of a rectangle
abbrev pub IsCoordinate : ℤ → Type 0
IsCoordinate z = (least_coordinate ≤ℤ z) × (z ≤ℤ greatest_coordinate)

pub record AreCoordinates (r : Rect) : Type 0 where
  pub left : IsCoordinate r.left
  pub top : IsCoordinate r.top
  pub right : IsCoordinate r.right
  pub bottom : IsCoordinate r.bottom

-- the rectangle of four words from number i on
abbrev pub rect_in : List (List ℕ) → ℕ → Result Rect Refusal
rect_in words i = do
  left ← edge_in (word_at words i)
  top ← edge_in (word_at words (i + 1))
  right ← edge_in (word_at words (i + 2))
  bottom ← edge_in (word_at words (i + 3))
  Ok (record { left = left; top = top; right = right; bottom = bottom })

-- the point of two words from number i on
abbrev pub point_in : List (List ℕ) → ℕ → Result Point Refusal
point_in words i = do
  x ← number_in least_coordinate greatest_point (word_at words i)
  y ← number_in least_coordinate greatest_point (word_at words (i + 1))
  Ok (record { x = x; y = y })

-- left isn't right of right, and top isn't below bottom
abbrev pub is_well_ordered : Rect → Bool
is_well_ordered r = int_le r.left r.right && int_le r.top r.bottom
