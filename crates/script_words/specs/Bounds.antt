-- The bounds of numbers, names and places.
use Rattle.std.specs.Prelude.{ℕ, ℤ, pos, negsuc}

-- decimal digits of a number
abbrev pub most_digits : ℕ
most_digits = 9

-- the greatest number that so many digits spell
abbrev pub greatest_number : ℕ
greatest_number = 999999999

-- letters, digits and underscores of a name
abbrev pub most_name_bytes : ℕ
most_name_bytes = 32

-- edges of a rectangle
abbrev pub least_coordinate : ℤ
least_coordinate = negsuc 32767

abbrev pub greatest_coordinate : ℤ
greatest_coordinate = pos 32767

-- coordinates of a point, whose rectangle of one pixel has edges of these bounds
abbrev pub greatest_point : ℤ
greatest_point = pos 32766
