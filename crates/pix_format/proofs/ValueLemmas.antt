use Rattle.std.proofs.Common.{◌≡◌, ℕ, ◌+◌, ◌*◌, ◌/◌, ◌%◌, ◌^◌, ◌<◌, List, [], ◌∷◌, length, get_or, All, max, min, ◌-◌, zero, suc, refl, rules, arith}
use Rattle.std.specs.Prelude.{EachIndex, slice_index}
use Rattle.std.proofs.lemmas.List.MinMax.{IsFirstBest-from_best_of, IsStrictWeakOrder-by_number}
use Rattle.std.proofs.lemmas.List.{get_or_default}
use Rattle.std.proofs.Math.Nat.{mul-suc}
use Rattle.std.proofs.lemmas.Bool.Decides.{nat_tests}
use Rattle.pix_format.specs.declared.rgb.Rgb.{Rgb}
use Rattle.pix_format.specs.declared.format.Format.{Format}
use Rattle.pix_format.specs.declared.format.Format.TheVariants.{B1, B4, B8, B555, B565, B24, B32}
use Rattle.pix_format.specs.Colour.{distance, nearest, squared_difference, IsNearest}
use Rattle.pix_format.specs.Packing.{packed888, unpacked888}
use Rattle.pix_format.specs.Value.{bits_of, black, colours_of, colour_of, value_of}
use Rattle.pix_format.proofs.TableLemmas.{IsFirstBest-nearest}

-- the entry that the definition names is a nearest one
pub IsNearest-nearest : (table : List Rgb) (c : Rgb) → 0 < length table → IsNearest table c (nearest table c)
IsNearest-nearest [] c some = absurd (omega arith)
IsNearest-nearest (a ∷ table) c some =
    let found = IsFirstBest-from_best_of (IsStrictWeakOrder-by_number (λ x. distance x c)) a table in
    rw (← IsFirstBest-nearest (a ∷ table) c found.0 found.1) found.1

-- and so an index of the table
pub nearest-below : (table : List Rgb) (c : Rgb) → 0 < length table → nearest table c < length table
nearest-below table c some = let best = IsNearest-nearest table c some in best.0

no_square : (n : ℕ) → n * n ≡ 0 → n ≡ 0
no_square zero none = refl
no_square (suc n) none = absurd (omega (arith, simp mul-suc at none))

-- colours at no distance are the same
same_channel : (a b : ℕ) → squared_difference a b ≡ 0 → a ≡ b
same_channel a b none =
    let apart = max a b - min a b in
    let equal : apart ≡ 0 = no_square apart none in
    omega arith

no_distance : (c : Rgb) → distance c c ≡ 0
no_distance c =
    let red : max c.r c.r - min c.r c.r ≡ 0 = omega arith in
    let green : max c.g c.g - min c.g c.g ≡ 0 = omega arith in
    let blue : max c.b c.b - min c.b c.b ≡ 0 = omega arith in
    rw (red, green, blue) refl

pub same_from_distance : (a b : Rgb) → distance a b ≡ 0 → a ≡ b
same_from_distance a b none =
    let red : a.r ≡ b.r = same_channel a.r b.r (omega arith) in
    let green : a.g ≡ b.g = same_channel a.g b.g (omega arith) in
    let blue : a.b ≡ b.b = same_channel a.b b.b (omega arith) in
    λ i. record { r = red i; g = green i; b = blue i }

-- the nearest to a colour of the table is that colour
pub nearest-exact : (table : List Rgb) (c : Rgb) (v : ℕ) → v < length table → get_or table v black ≡ c → get_or table (nearest table c) black ≡ c
nearest-exact table c v inside is =
    let best = IsNearest-nearest table c (omega arith) in
    let at_least = best.1 v black inside in
    let none : distance (get_or table v black) c ≡ 0 = rw is (no_distance c) in
    same_from_distance (get_or table (nearest table c) black) c (grind (arith, nat_tests))

-- a colour that some value stands for gets a value that stands for it
pub value_of-exact : (format : Format) (table : List Rgb) (c : Rgb) (v : ℕ) → length table ≡ colours_of format → v < 2 ^ bits_of format →
    colour_of format table v ≡ c → colour_of format table (value_of format table c) ≡ c
value_of-exact B1 table c v fits inside is = nearest-exact table c v (omega arith) is
value_of-exact B4 table c v fits inside is = nearest-exact table c v (omega arith) is
value_of-exact B8 table c v fits inside is = nearest-exact table c v (omega arith) is
value_of-exact B555 table c v fits inside is = search rules
value_of-exact B565 table c v fits inside is = search rules
value_of-exact B24 table c v fits inside is = search rules
value_of-exact B32 table c v fits inside is = search rules

-- the value of a colour of eight bits a channel fits its format
pub value_of-fits : (format : Format) (table : List Rgb) (c : Rgb) → length table ≡ colours_of format → c.r < 256 → c.g < 256 → c.b < 256 →
    value_of format table c < 2 ^ bits_of format
value_of-fits B1 table c fits r g b = rw (← fits) (nearest-below table c (omega arith))
value_of-fits B4 table c fits r g b = rw (← fits) (nearest-below table c (omega arith))
value_of-fits B8 table c fits r g b = rw (← fits) (nearest-below table c (omega arith))
value_of-fits B555 table c fits r g b = omega arith
value_of-fits B565 table c fits r g b = omega arith
value_of-fits B24 table c fits r g b = omega arith
value_of-fits B32 table c fits r g b = omega arith

-- a row of values of colours fits
pub values-fit : (format : Format) (table : List Rgb) (old new : List ℕ) → length table ≡ colours_of format →
    EachIndex new (λ k. slice_index new k ≡ value_of format table (unpacked888 (slice_index old k))) → All (λ v. v < 2 ^ bits_of format) new
values-fit format table old new fits each k d inside =
    let colour = unpacked888 (get_or old k 0) in
    rw (get_or_default new k d 0 inside, each k inside) (value_of-fits format table colour fits (omega arith) (omega arith) (omega arith))

-- a colour of eight bits a channel stands in three bytes
pub packed_and_unpacked888 : (c : Rgb) → c.r < 256 → c.g < 256 → c.b < 256 → unpacked888 (packed888 c) ≡ c
packed_and_unpacked888 c r g b =
    let red : (c.r * 65536 + c.g * 256 + c.b) / 65536 % 256 ≡ c.r = omega arith in
    let green : (c.r * 65536 + c.g * 256 + c.b) / 256 % 256 ≡ c.g = omega arith in
    let blue : (c.r * 65536 + c.g * 256 + c.b) % 256 ≡ c.b = omega arith in
    λ i. record { r = red i; g = green i; b = blue i }
