use Rattle.std.proofs.Common.{◌≡◌, ℕ, ℤ, pos, ◌+◌, ◌*◌, List, get_or, refl, ap, sym, arith, unsigned_abs}
use Rattle.std.proofs.lemmas.Int.{ints}
use Rattle.geom_base.specs.declared.size.Size.{Size}
use Rattle.geom_base.specs.Grid.{value_at}
use Rattle.geom_base.specs.Points.{point_at}
use Rattle.blt_kernel.specs.InnerShift.{place_shifted, value_shifted}
use Rattle.blt_kernel.specs.declared.shift.Shift.{Shift}

-- the places that belong to a run are a run
pub place_along : (corner at : ℤ) (x k c : ℕ) → pos c ≡ place_shifted corner at (pos x) → unsigned_abs (place_shifted corner at (pos (x + k))) ≡ c + k
place_along corner at x k c e =
    let moved : place_shifted corner at (pos (x + k)) ≡ pos (c + k) = omega (arith, ints) in
    ap unsigned_abs moved

pub place_of_row : (corner at : ℤ) (y c : ℕ) → pos c ≡ place_shifted corner at (pos y) → unsigned_abs (place_shifted corner at (pos y)) ≡ c
place_of_row corner at y c e = ap unsigned_abs (sym e)

-- the values that belong to a run of a row
pub value_along : (shift : Shift) (size : Size) (values : List ℕ) (x y k cx cy : ℕ) → pos cx ≡ place_shifted shift.rect.left shift.at.x (pos x) →
    pos cy ≡ place_shifted shift.rect.top shift.at.y (pos y) →
    value_at size values (cx + k) cy ≡ value_shifted shift size values (point_at (x + k) y)
value_along shift size values x y k cx cy ex ey =
    let column = place_along shift.rect.left shift.at.x x k cx ex in
    let row = place_of_row shift.rect.top shift.at.y y cy ey in
    ap (λ (i : ℕ). get_or values i 0)
    (rowwise (unsigned_abs (place_shifted shift.rect.top shift.at.y (pos y)))
    (unsigned_abs (place_shifted shift.rect.left shift.at.x (pos (x + k)))) size.w cx k cy column row)
  where
    rowwise : (r c w cx k cy : ℕ) → c ≡ cx + k → r ≡ cy → cy * w + (cx + k) ≡ r * w + c
    rowwise r c w cx k cy column row = rw (column, row) refl
