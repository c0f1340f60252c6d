-- Parts of rows and of boxes in an order.
use Rattle.std.proofs.Common.{◌≡◌, ℕ, ◌+◌, ◌-◌, ◌<◌, ◌≤◌, Bool, true, false, cond, ◌||◌, ◌&&◌, pos, ap, arith, ◌⊎◌, inl, inr}
use Rattle.std.proofs.lemmas.Bool.Decides.{nat_tests}
use Rattle.std.proofs.lemmas.Int.{ints}
use Rattle.geom_base.specs.Points.{is_in, box_of, point_at}
use Rattle.blt_kernel.specs.InnerShift.{place_shifted}
use Rattle.blt_kernel.specs.InnerOrder.{IsAhead, columns_done, rows_done}
use Rattle.blt_kernel.specs.declared.shift.Shift.{Shift}

-- a place is not before another in an order
abbrev pub NotBefore : Bool → ℕ → ℕ → ℕ → ℕ → Type 0
NotBefore true x y sx sy = (y < sy) ⊎ ((sy ≡ y) × (x ≤ sx))
NotBefore false x y sx sy = (sy < y) ⊎ ((sy ≡ y) × (sx ≤ x))

pub ahead : (shift : Shift) (forward : Bool) (x y sx sy : ℕ) → IsAhead shift forward → pos sx ≡ place_shifted shift.rect.left shift.at.x (pos x) →
    pos sy ≡ place_shifted shift.rect.top shift.at.y (pos y) → NotBefore forward x y sx sy
ahead shift true x y sx sy (inl below) ex ey = inl (omega (arith, ints))
ahead shift true x y sx sy (inr (same, right)) ex ey = inr (omega (arith, ints), omega (arith, ints))
ahead shift false x y sx sy (inl above) ex ey = inl (omega (arith, ints))
ahead shift false x y sx sy (inr (same, left)) ex ey = inr (omega (arith, ints), omega (arith, ints))

-- no column, and no row
pub columns_none : (forward : Bool) (left right y x' y' : ℕ) → is_in (point_at x' y') (columns_done forward left right y 0) ≡ false
columns_none true left right y x' y' = grind (arith, nat_tests)
columns_none false left right y x' y' = grind (arith, nat_tests)

pub rows_none : (forward : Bool) (left top right bottom x' y' : ℕ) → is_in (point_at x' y') (rows_done forward left top right bottom 0) ≡ false
rows_none true left top right bottom x' y' = grind (arith, nat_tests)
rows_none false left top right bottom x' y' = grind (arith, nat_tests)

-- some columns more
pub columns_more : (forward : Bool) (left right y done len x x' y' : ℕ) → left + done + len ≤ right → x ≡ cond forward (left + done) (right - done - len) →
    (is_in (point_at x' y') (columns_done forward left right y (done + len)) ≡
    (is_in (point_at x' y') (columns_done forward left right y done) || is_in (point_at x' y') (box_of x y (x + len) (y + 1))))
    × ((is_in (point_at x' y') (columns_done forward left right y done) && is_in (point_at x' y') (box_of x y (x + len) (y + 1))) ≡ false)
columns_more true left right y done len x x' y' fits e = (grind (arith, nat_tests), grind (arith, nat_tests))
columns_more false left right y done len x x' y' fits e = (grind (arith, nat_tests), grind (arith, nat_tests))

-- one row more
pub rows_more : (forward : Bool) (left top right bottom done y x' y' : ℕ) → top + done + 1 ≤ bottom → y ≡ cond forward (top + done) (bottom - done - 1) →
    (is_in (point_at x' y') (rows_done forward left top right bottom (done + 1)) ≡
    (is_in (point_at x' y') (rows_done forward left top right bottom done) || is_in (point_at x' y') (box_of left y right (y + 1))))
    × ((is_in (point_at x' y') (rows_done forward left top right bottom done) && is_in (point_at x' y') (box_of left y right (y + 1))) ≡ false)
rows_more true left top right bottom done y x' y' fits e = (grind (arith, nat_tests), grind (arith, nat_tests))
rows_more false left top right bottom done y x' y' fits e = (grind (arith, nat_tests), grind (arith, nat_tests))

-- what is not before the next columns is not among those that are done
pub columns_ahead : (forward : Bool) (left right y done len x x' y' sx sy : ℕ) → left + done + len ≤ right →
    x ≡ cond forward (left + done) (right - done - len) →
    is_in (point_at x' y') (box_of x y (x + len) (y + 1)) ≡ true → NotBefore forward x' y' sx sy →
    is_in (point_at sx sy) (columns_done forward left right y done) ≡ false
columns_ahead true left right y done len x x' y' sx sy fits e inside (inl below) = grind (arith, nat_tests)
columns_ahead true left right y done len x x' y' sx sy fits e inside (inr right_of) = grind (arith, nat_tests)
columns_ahead false left right y done len x x' y' sx sy fits e inside (inl above) = grind (arith, nat_tests)
columns_ahead false left right y done len x x' y' sx sy fits e inside (inr left_of) = grind (arith, nat_tests)

-- what is not before the next row is not in those that are done
pub rows_ahead : (forward : Bool) (left top right bottom done y x' y' sx sy : ℕ) → top + done + 1 ≤ bottom → y ≡ cond forward (top + done) (bottom - done - 1) →
    is_in (point_at x' y') (box_of left y right (y + 1)) ≡ true → NotBefore forward x' y' sx sy →
    is_in (point_at sx sy) (rows_done forward left top right bottom done) ≡ false
rows_ahead true left top right bottom done y x' y' sx sy fits e inside (inl below) = grind (arith, nat_tests)
rows_ahead true left top right bottom done y x' y' sx sy fits e inside (inr right_of) = grind (arith, nat_tests)
rows_ahead false left top right bottom done y x' y' sx sy fits e inside (inl above) = grind (arith, nat_tests)
rows_ahead false left top right bottom done y x' y' sx sy fits e inside (inr left_of) = grind (arith, nat_tests)

-- a part lies between the ends
pub part_within : (forward : Bool) (from to done len x : ℕ) → from + done + len ≤ to → x ≡ cond forward (from + done) (to - done - len) →
    (from ≤ x) × (x + len ≤ to)
part_within true from to done len x fits e = (omega arith, omega arith)
part_within false from to done len x fits e = (omega arith, omega arith)

-- all columns, and all rows
pub columns_all : (forward : Bool) (left right y done : ℕ) → left + done ≡ right → columns_done forward left right y done ≡ box_of left y right (y + 1)
columns_all true left right y done e = ap (λ (n : ℕ). box_of left y n (y + 1)) e
columns_all false left right y done e = let back : right - done ≡ left = omega arith in ap (λ (n : ℕ). box_of n y right (y + 1)) back

pub rows_all : (forward : Bool) (left top right bottom done : ℕ) → top + done ≡ bottom →
    rows_done forward left top right bottom done ≡ box_of left top right bottom
rows_all true left top right bottom done e = ap (λ (n : ℕ). box_of left top right n) e
rows_all false left top right bottom done e = let back : bottom - done ≡ top = omega arith in ap (λ (n : ℕ). box_of left n right bottom) back
