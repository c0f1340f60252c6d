-- Laws of places: the coordinates of a rectangle and of a point that was read, and their order where it was asked.
use Rattle.std.proofs.Common.{◌≡◌, ℕ, ℤ, ◌+◌, List, Ok, true, arith}
use Rattle.std.specs.Prelude.{IfOk, ◌≤ℤ◌, int_le}
use Rattle.std.proofs.lemmas.Bool.{and_parts}
use Rattle.std.proofs.lemmas.Int.{ints}
use Rattle.std.proofs.lemmas.Result.{IfOk-at_ok}
use Rattle.geom_base.specs.declared.rect.Rect.{Rect}
use Rattle.script_words.specs.AskingLaws.{if_read}
use Rattle.script_words.specs.Bounds.{least_coordinate, greatest_coordinate, greatest_point}
use Rattle.script_words.specs.Lines.{word_at}
use Rattle.script_words.specs.Places.{IsCoordinate, AreCoordinates, edge_in, rect_in, point_in, is_well_ordered}
use Rattle.script_words.specs.Spelling.{number_in}
use Rattle.script_words.specs.SpellingLaws.{number_within}

edge_at : {z : ℤ} (word : List ℕ) → edge_in word ≡ Ok z → IsCoordinate z
edge_at word e = IfOk-at_ok IsCoordinate e (number_within least_coordinate greatest_coordinate word)

-- each edge of a rectangle is a coordinate
pub rect_within : (words : List (List ℕ)) (i : ℕ) → IfOk (rect_in words i) AreCoordinates
rect_within words i =
    if_read _ (edge_in (word_at words i)) _ (λ left el.
    if_read _ (edge_in (word_at words (i + 1))) _ (λ top et.
    if_read _ (edge_in (word_at words (i + 2))) _ (λ right er.
    if_read _ (edge_in (word_at words (i + 3))) _ (λ bottom eb. record {
      left = edge_at (word_at words i) el;
      top = edge_at (word_at words (i + 1)) et;
      right = edge_at (word_at words (i + 2)) er;
      bottom = edge_at (word_at words (i + 3)) eb;
    }))))

coordinate_at : {z : ℤ} (word : List ℕ) → number_in least_coordinate greatest_point word ≡ Ok z → IsCoordinate z
coordinate_at word e =
    let w = IfOk-at_ok (λ z. (least_coordinate ≤ℤ z) × (z ≤ℤ greatest_point)) e (number_within least_coordinate greatest_point word) in
    (w.0, omega (arith, ints, w.1))

-- and so is each coordinate of a point
pub point_within : (words : List (List ℕ)) (i : ℕ) → IfOk (point_in words i) (λ p. IsCoordinate p.x × IsCoordinate p.y)
point_within words i =
    if_read _ (number_in least_coordinate greatest_point (word_at words i)) _ (λ x ex.
    if_read _ (number_in least_coordinate greatest_point (word_at words (i + 1))) _ (λ y ey.
    (coordinate_at (word_at words i) ex, coordinate_at (word_at words (i + 1)) ey)))

-- the edges of a rectangle are in order where that was asked
pub in_order : (r : Rect) → is_well_ordered r ≡ true → (r.left ≤ℤ r.right) × (r.top ≤ℤ r.bottom)
in_order r e = let w = and_parts (int_le r.left r.right) (int_le r.top r.bottom) e in (grind (arith, ints, w.0), grind (arith, ints, w.1))
