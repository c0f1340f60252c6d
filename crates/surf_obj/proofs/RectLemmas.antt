-- Rectangles that are read and written row by row.
use Rattle.std.proofs.Common.{◌≡◌, ◌∙◌, ℕ, ℤ, pos, ◌+ℤ◌, ◌-ℤ◌, ◌≤ℤ◌, ◌+◌, ◌-◌, ◌*◌, ◌<◌, ◌≤◌, Bool, true, false, ◌||◌, ◌&&◌, IsTrue}
use Rattle.std.proofs.Common.{int_le, int_lt, List, length, get_or, take, drop, refl, ap, sym, arith, Some, unsigned_abs, inl, inr}
use Rattle.std.proofs.lemmas.Int.{ints}
use Rattle.std.proofs.lemmas.Bool.{cases_lt}
use Rattle.std.proofs.lemmas.Nat.{mul-add-lt}
use Rattle.std.proofs.Math.Nat.{mul_comm, mul-le-mul_right}
use Rattle.geom_base.specs.declared.point.Point.{Point}
use Rattle.geom_base.specs.declared.rect.Rect.{Rect}
use Rattle.geom_base.specs.declared.size.Size.{Size}
use Rattle.geom_base.specs.Grid.{value_at, value_of_point}
use Rattle.geom_base.specs.PointLaws.{is_in-IsIn, same_edges}
use Rattle.geom_base.specs.Points.{is_in, LiesIn, moved, point_at, width_of, height_of, sides_of, corner_of}
use Rattle.geom_base.specs.Step.{redrawn}
use Rattle.geom_base.specs.StepLaws.{redrawn_none, redrawn_same, redrawn_two}
use Rattle.surf_obj.specs.Rects.{with_values}
use Rattle.surf_obj.specs.Runs.{listed, run_of}
use Rattle.surf_obj.proofs.PartLemmas.{get_or-part, get_or-put_mid_inside, get_or-put_mid_outside, length-part}
use borrow.Rule.Slice.PartMut.{put_mid}

-- a row among those of a list with a place for each point
pub row_room : (r : Rect) (n row rows count : ℕ) → row < rows → rows ≡ height_of r → n ≡ width_of r → count ≡ width_of r * height_of r → row * n + n ≤ count
row_room r n row rows count lt h w c =
    let up : (row + 1) * n ≤ rows * n = mul-le-mul_right n (omega arith) in
    let whole : count ≡ rows * n = rw (h, w) (c ∙ mul_comm (width_of r) (height_of r)) in
    rw whole (grind arith)

-- the first rows of a rectangle
abbrev pub first_rows : Rect → ℕ → Rect
first_rows r row = record { left = r.left; top = r.top; right = r.right; bottom = r.top +ℤ pos row }

-- the first point of a row
abbrev pub row_at : Rect → ℕ → Point
row_at r row = record { x = r.left; y = r.top +ℤ pos row }

-- a row of a rectangle lies in its surface
pub row_inside : (r : Rect) (size : Size) (at : Point) (row rows len : ℕ) → LiesIn r size → row < rows → rows ≡ height_of r → at ≡ row_at r row → len ≡ width_of r →
    LiesIn (run_of at len) size
row_inside r size at row rows len h lt tall e w = rw (e, w) (record {
  left = h.left;
  across = omega (arith, ints);
  right = omega (arith, ints, h.across, h.right);
  top = omega (arith, ints, h.top);
  down = omega (arith, ints);
  bottom = omega (arith, ints, h.down, h.bottom, lt, tall);
})

-- a row of a list has as many places as there are columns
pub row_wide : (xs : List ℕ) (n row : ℕ) → row * n + n ≤ length xs → length (take (row * n + n - row * n) (drop (row * n) xs)) ≡ n
row_wide xs n row room = length-part xs (row * n) (row * n + n) room ∙ omega arith

seen : (r : Rect) (at : Point) (row x y : ℕ) → at ≡ row_at r row → y ≡ row → record { x = at.x +ℤ pos x; y = at.y } ≡ moved (point_at x y) (corner_of r)
seen r at row x y e here =
    let across : r.left +ℤ pos x ≡ pos x +ℤ r.left = omega (arith, ints) in
    let down : r.top +ℤ pos row ≡ pos y +ℤ r.top = omega (arith, ints) in
    rw (e, across, down) refl

-- the values after one more row
pub rows_read : (r : Rect) (size : Size) (values out part : List ℕ) (at : Point) (n row : ℕ) → n ≡ width_of r → row * n + n ≤ length out →
    length part ≡ length (take (row * n + n - row * n) (drop (row * n) out)) → at ≡ row_at r row →
    ((x y : ℕ) → x < width_of r → y < row → value_at (sides_of r) out x y ≡ value_of_point size values (moved (point_at x y) (corner_of r))) →
    ((k : ℕ) → k < length part → get_or part k 0 ≡ value_of_point size values (record { x = at.x +ℤ pos k; y = at.y })) →
    (x y : ℕ) → x < width_of r → y < row + 1 →
    value_at (sides_of r) (put_mid (row * n) (row * n + n - row * n) out part) x y ≡ value_of_point size values (moved (point_at x y) (corner_of r))
rows_read r size values out part at n row w room long e before each x y hx hy =
    let same : row * n + n - row * n ≡ n = omega arith in
    let count = long ∙ row_wide out n row room in
    let column : x < n = rw w hx in
    rw same (elim (cases_lt y row) [
      | inl above ↦
          let place : y * n + x < row * n = rw (mul_comm row n) (mul-add-lt y n x row above column) in
          get_or-put_mid_outside (row * n) n out part (y * width_of r + x) count room (inl (rw (← w) place))
          ∙ before x y hx above
      | inr below ↦
          let here : y ≡ row = omega arith in
          let place : y * width_of r + x ≡ row * n + x = rw (here, w) refl in
          let past : row * n + x - row * n ≡ x = omega arith in
          rw place (get_or-put_mid_inside (row * n) n out part (row * n + x) count room (omega arith) (omega arith)
          ∙ rw past (each x (rw count (omega arith))) ∙ ap (value_of_point size values) (seen r at row x y e here))
    ])

-- and their bound
pub rows_fit : (out part : List ℕ) (n row bound : ℕ) → row * n + n ≤ length out →
    length part ≡ length (take (row * n + n - row * n) (drop (row * n) out)) → ((k : ℕ) → k < row * n → get_or out k 0 < bound) →
    ((k d : ℕ) → k < length part → get_or part k d < bound) →
    (k : ℕ) → k < (row + 1) * n → get_or (put_mid (row * n) (row * n + n - row * n) out part) k 0 < bound
rows_fit out part n row bound room long before each k lt =
    let same : row * n + n - row * n ≡ n = omega arith in
    let count = long ∙ row_wide out n row room in
    let next : (row + 1) * n ≡ row * n + n = grind arith in
    rw same (elim (cases_lt k (row * n)) [
      | inl above ↦ rw (get_or-put_mid_outside (row * n) n out part k count room (inl above)) (before k above)
      | inr below ↦ rw (get_or-put_mid_inside (row * n) n out part k count room below (rw (← next) lt))
          (each (k - row * n) 0 (rw count (omega arith)))
    ])

-- after the last row, each place was read
pub every_place : (r : Rect) (n row rows k count : ℕ) → rows ≤ row → rows ≡ height_of r → n ≡ width_of r → count ≡ width_of r * height_of r → k < count →
    k < row * n
every_place r n row rows k count stop h w c lt =
    let all : rows * n ≤ row * n = mul-le-mul_right n stop in
    let whole : count ≡ rows * n = rw (h, w) (c ∙ mul_comm (width_of r) (height_of r)) in
    omega (arith, all, whole, lt)

-- no row
pub no_row : (r : Rect) (size : Size) (old values : List ℕ) → length old ≡ size.w * size.h →
    old ≡ redrawn size old (λ p. is_in p (first_rows r 0)) (with_values r values)
no_row r size old values long =
    sym (redrawn_none size old (λ p. is_in p (first_rows r 0)) (with_values r values) long (λ x y hx hy. none r.left r.right r.top x y))
  where
    none : (l n t : ℤ) (x y : ℕ) → is_in (point_at x y) (record { left = l; top = t; right = n; bottom = t +ℤ pos 0 }) ≡ false
    none l n t x y = grind (arith, ints)

-- all rows
pub all_rows : (r : Rect) (size : Size) (row rows : ℕ) → LiesIn r size → rows ≤ row → row ≤ rows → rows ≡ height_of r → first_rows r row ≡ r
all_rows r size row rows h stop most tall =
    let bottom : r.top +ℤ pos row ≡ r.bottom = omega (arith, ints, h.down) in
    same_edges (first_rows r row) r refl refl refl bottom

-- one row, as columns from edge to edge
abbrev one_row : Rect → ℕ → Rect
one_row r row = record { left = r.left; top = r.top +ℤ pos row; right = r.right; bottom = (r.top +ℤ pos row) +ℤ pos 1 }

run_across : (r : Rect) (at : Point) (row len : ℕ) → r.left ≤ℤ r.right → at ≡ row_at r row → len ≡ width_of r → run_of at len ≡ one_row r row
run_across r at row len across e w =
    let right : r.left +ℤ pos len ≡ r.right = omega (arith, ints) in
    rw e (same_edges (run_of (row_at r row) len) (one_row r row) refl refl right refl)

-- what a row gets is what the rectangle gives its points
row_gives : (r : Rect) (values : List ℕ) (row : ℕ) (from : ℤ) (p : Point) (d : ℕ) → pos 0 ≤ℤ r.left → from ≡ r.left → IsTrue (is_in p (one_row r row)) →
    listed (take (row * width_of r + width_of r - row * width_of r) (drop (row * width_of r) values)) (unsigned_abs from) p d ≡ with_values r values p d
row_gives r values row from p d left e t =
    let h = (is_in-IsIn p (one_row r row)).0 t in
    let n = width_of r in
    let column : unsigned_abs p.x - unsigned_abs from ≡ unsigned_abs (p.x -ℤ r.left) = omega (arith, ints, left, e, h.from_left) in
    let line : unsigned_abs (p.y -ℤ r.top) ≡ row = omega (arith, ints, h.from_top, h.to_bottom) in
    let below : unsigned_abs (p.x -ℤ r.left) < n = omega (arith, ints, h.from_left, h.to_right) in
    let k = row * n + unsigned_abs (p.x -ℤ r.left) in
    let past : k - row * n ≡ unsigned_abs (p.x -ℤ r.left) = omega arith in
    let value : get_or (take (row * n + n - row * n) (drop (row * n) values)) (unsigned_abs (p.x -ℤ r.left)) 0 ≡
    get_or values k 0 = rw past at (get_or-part values (row * n) (row * n + n) k (omega arith) (omega arith)) in
    ap Some (rw (column, line) value)

-- rows and the next one are those up to it
next_row : (t m y : ℤ) → t ≤ℤ m →
    (int_le t y && int_lt y (m +ℤ pos 1)) ≡ ((int_le t y && int_lt y m) || (int_le m y && int_lt y (m +ℤ pos 1)))
next_row t m y h = grind (arith, ints)

across : (q a b c d e f : Bool) → (a && b) ≡ ((c && d) || (e && f)) → (q && a && b) ≡ ((q && c && d) || (q && e && f))
across true a b c d e f h = h
across false a b c d e f h = refl

joined : (r : Rect) (row : ℕ) (p : Point) → is_in p (first_rows r (row + 1)) ≡ (is_in p (first_rows r row) || is_in p (one_row r row))
joined r row p =
    let m = r.top +ℤ pos row in
    let end : r.top +ℤ pos (row + 1) ≡ m +ℤ pos 1 = omega (arith, ints) in
    across (int_le r.left p.x && int_lt p.x r.right) (int_le r.top p.y) (int_lt p.y (r.top +ℤ pos (row + 1))) (int_le r.top p.y) (int_lt p.y m)
    (int_le m p.y) (int_lt p.y (m +ℤ pos 1))
    (ap (λ z. int_le r.top p.y && int_lt p.y z) end ∙ next_row r.top m p.y (omega (arith, ints)))

apart : (r : Rect) (row : ℕ) (p : Point) → IsTrue (is_in p (one_row r row)) → is_in p (first_rows r row) ≡ false
apart r row p t = let h = (is_in-IsIn p (one_row r row)).0 t in grind (arith, ints, h.from_top)

-- a step in the first rows and then in the next is a step in the first rows up to it
one_more : (r : Rect) (size : Size) (old values : List ℕ) (row : ℕ) (from : ℤ) → length old ≡ size.w * size.h → pos 0 ≤ℤ r.left → from ≡ r.left →
    redrawn size (redrawn size old (λ p. is_in p (first_rows r row)) (with_values r values)) (λ p. is_in p (one_row r row))
    (listed (take (row * width_of r + width_of r - row * width_of r) (drop (row * width_of r) values)) (unsigned_abs from)) ≡
    redrawn size old (λ p. is_in p (first_rows r (row + 1))) (with_values r values)
one_more r size old values row from long left e =
    redrawn_two size old (λ p. is_in p (first_rows r row)) (λ p. is_in p (one_row r row)) (with_values r values)
    (listed (take (row * width_of r + width_of r - row * width_of r) (drop (row * width_of r) values)) (unsigned_abs from)) (with_values r values)
    (λ p t. apart r row p t) (λ p v t. refl) (λ p v t. row_gives r values row from p v left e t)
    ∙ redrawn_same size old (λ p. is_in p (first_rows r row) || is_in p (one_row r row)) (λ p. is_in p (first_rows r (row + 1))) (with_values r values) long
    (λ x y hx hy. joined r row (point_at x y))

-- the values after one more row
pub row_written : (r : Rect) (size now : Size) (old mid new values : List ℕ) (at : Point) (n row len : ℕ) → length old ≡ size.w * size.h → LiesIn r size →
    now ≡ size → n ≡ width_of r → at ≡ row_at r row → len ≡ n →
    mid ≡ redrawn size old (λ p. is_in p (first_rows r row)) (with_values r values) →
    new ≡
    redrawn now mid (λ p. is_in p (run_of at len)) (listed (take (row * n + n - row * n) (drop (row * n) values)) (unsigned_abs at.x)) →
    new ≡ redrawn size old (λ p. is_in p (first_rows r (row + 1))) (with_values r values)
row_written r size now old mid new values at n row len long inside same w e count first second =
    (rw (same, w, first) at second)
    ∙ ap (λ (box : Rect). redrawn size (redrawn size old (λ p. is_in p (first_rows r row)) (with_values r values)) (λ p. is_in p box)
    (listed (take (row * width_of r + width_of r - row * width_of r) (drop (row * width_of r) values)) (unsigned_abs at.x)))
    (run_across r at row len inside.across e (count ∙ w))
    ∙ one_more r size old values row at.x long inside.left (ap (λ (p : Point). p.x) e)
