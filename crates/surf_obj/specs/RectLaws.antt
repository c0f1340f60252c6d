-- Laws of rectangles that are read and written as lists.
use Rattle.std.proofs.Common.{◌≡◌, ◌∙◌, ℕ, ℤ, pos, ◌+ℤ◌, ◌-ℤ◌, ◌≤ℤ◌, ◌<ℤ◌, ◌*◌, ◌<◌, Bool, true, false, ◌||◌, cond, IsTrue}
use Rattle.std.proofs.Common.{List, length, get_or, refl, ap, sym, arith, zero-add, Option, Some, unwrap_or, unsigned_abs}
use Rattle.std.proofs.lemmas.Int.{ints}
use Rattle.std.proofs.lemmas.Nat.{div-add-mod'}
use Rattle.geom_base.specs.declared.point.Point.{Point}
use Rattle.geom_base.specs.declared.rect.Rect.{Rect}
use Rattle.geom_base.specs.declared.size.Size.{Size}
use Rattle.geom_base.specs.Grid.{value_at, value_of_point, point_of}
use Rattle.geom_base.specs.GridLaws.{get_or-grid_of, length-grid_of, same_grid}
use Rattle.geom_base.specs.PointLaws.{is_in-IsIn}
use Rattle.geom_base.specs.Points.{is_in, IsIn, LiesIn, moved, moved_rect, point_at, whole, width_of, height_of, sides_of, corner_of, moved_back}
use Rattle.geom_base.specs.Step.{Area, Change, step_at, value_after, redrawn}
use Rattle.geom_base.specs.StepLaws.{map_from-ext, map_from-map_from, redrawn_ext, length-redrawn, value_at-redrawn}
use Rattle.surf_obj.specs.Rects.{rect_values, ReadsRect, as_in, as_in_at, with_values}

pub length-rect_values : (r : Rect) (size : Size) (values : List ℕ) → length (rect_values r size values) ≡ width_of r * height_of r
unfolding rect_values
length-rect_values r size values =
    length-grid_of (width_of r) (height_of r) (λ x y. value_of_point size values (moved (point_at x y) (corner_of r)))

-- the value of a column of a row
pub value_at-rect_values : (r : Rect) (size : Size) (values : List ℕ) (x y : ℕ) → x < width_of r → y < height_of r →
    value_at (sides_of r) (rect_values r size values) x y ≡ value_of_point size values (moved (point_at x y) (corner_of r))
unfolding rect_values
value_at-rect_values r size values x y hx hy =
    get_or-grid_of (width_of r) (height_of r) (λ x y. value_of_point size values (moved (point_at x y) (corner_of r))) x y hx hy

-- a list with these values is the rectangle's
pub reads_rect : (r : Rect) (size : Size) (values out : List ℕ) → length out ≡ width_of r * height_of r →
    ((x y : ℕ) → x < width_of r → y < height_of r → value_at (sides_of r) out x y ≡ value_of_point size values (moved (point_at x y) (corner_of r))) →
    ReadsRect r size values out
unfolding rect_values
reads_rect r size values out long each =
    same_grid (width_of r) (height_of r) (λ x y. value_of_point size values (moved (point_at x y) (corner_of r))) out long each

below_width : (l r x : ℤ) → l ≤ℤ x → x <ℤ r → unsigned_abs (x -ℤ l) < unsigned_abs (r -ℤ l)
below_width l r x a b = omega (arith, ints)

distance : (l x : ℤ) → l ≤ℤ x → pos (unsigned_abs (x -ℤ l)) ≡ x -ℤ l
distance l x a = omega (arith, ints)

from_edge : (l x : ℤ) → l ≤ℤ x → pos (unsigned_abs (x -ℤ l)) +ℤ l ≡ x
from_edge l x a = omega (arith, ints)

same_point : (p q : Point) → p.x ≡ q.x → p.y ≡ q.y → p ≡ q
same_point p q x y = let e : record { x = p.x; y = p.y } ≡ record { x = q.x; y = q.y } = rw (x, y) refl in e

-- the value of a point
pub rect_value : (r : Rect) (size : Size) (values : List ℕ) (p : Point) → IsIn p r →
    value_of_point (sides_of r) (rect_values r size values) (moved_back (corner_of r) p) ≡ value_of_point size values p
rect_value r size values p h =
    let dx = unsigned_abs (p.x -ℤ r.left) in
    let dy = unsigned_abs (p.y -ℤ r.top) in
    value_at-rect_values r size values dx dy (below_width r.left r.right p.x h.from_left h.to_right) (below_width r.top r.bottom p.y h.from_top h.to_bottom)
    ∙ ap (value_of_point size values) (same_point (moved (point_at dx dy) (corner_of r)) p (from_edge r.left p.x h.from_left) (from_edge r.top p.y h.from_top))

-- values that were read are written as those of the surface
pub written_as : (r : Rect) (size : Size) (values from : List ℕ) (p : Point) (d : ℕ) → ReadsRect r size values from → IsTrue (is_in p r) →
    with_values r from p d ≡ as_in size values p d
written_as r size values from p d reads t = rw reads (ap Some (rect_value r size values p ((is_in-IsIn p r).0 t)))

same_width : (l r by : ℤ) → unsigned_abs ((r +ℤ by) -ℤ (l +ℤ by)) ≡ unsigned_abs (r -ℤ l)
same_width l r by = omega (arith, ints)

same_distance : (l x by : ℤ) → unsigned_abs (x -ℤ (l +ℤ by)) ≡ unsigned_abs ((x -ℤ by) -ℤ l)
same_distance l x by = omega (arith, ints)

back_in : (r : Rect) (by p : Point) → IsIn p (moved_rect r by) → IsIn (moved_back by p) r
back_in r by p h = record {
  from_left = omega (arith, ints, h.from_left);
  to_right = omega (arith, ints, h.to_right);
  from_top = omega (arith, ints, h.from_top);
  to_bottom = omega (arith, ints, h.to_bottom);
}

-- and written to a rectangle that is moved, as those of the surface from that corner
pub written_as_at : (r : Rect) (by : Point) (size : Size) (values from : List ℕ) (p : Point) (d : ℕ) → ReadsRect r size values from →
    IsTrue (is_in p (moved_rect r by)) → with_values (moved_rect r by) from p d ≡ as_in_at by size values p d
written_as_at r by size values from p d reads t =
    rw (reads, same_width r.left r.right by.x, same_distance r.left p.x by.x, same_distance r.top p.y by.y)
    (ap Some (rect_value r size values (moved_back by p) (back_in r by p ((is_in-IsIn p (moved_rect r by)).0 t))))

choose : (q : Bool) (m n v : ℕ) → (IsTrue q → m ≡ n) → cond q m v ≡ cond q n v
choose true m n v h = h refl
choose false m n v h = refl

-- two changes that agree in the area
pub redrawn_agree : (size : Size) (vs : List ℕ) (area : Area) (f g : Change) → ((p : Point) (d : ℕ) → IsTrue (area p) → f p d ≡ g p d) →
    redrawn size vs area f ≡ redrawn size vs area g
redrawn_agree size vs area f g h =
    redrawn_ext size vs area area f g (λ i lt. choose (area (point_of size.w i)) _ _ _ (λ t. ap (λ (o : Option ℕ). unwrap_or o (get_or vs i 0))
    (h (point_of size.w i) _ t)))

-- the two as steps
pub redrawn_written : (size shape : Size) (vs values from : List ℕ) (r : Rect) → ReadsRect r shape values from →
    redrawn size vs (λ p. is_in p r) (with_values r from) ≡ redrawn size vs (λ p. is_in p r) (as_in shape values)
redrawn_written size shape vs values from r reads =
    redrawn_agree size vs (λ p. is_in p r) (with_values r from) (as_in shape values) (λ p d t. written_as r shape values from p d reads t)

pub redrawn_written_at : (size shape : Size) (vs values from : List ℕ) (r : Rect) (by : Point) → ReadsRect r shape values from →
    redrawn size vs (λ p. is_in p (moved_rect r by)) (with_values (moved_rect r by) from) ≡
    redrawn size vs (λ p. is_in p (moved_rect r by)) (as_in_at by shape values)
redrawn_written_at size shape vs values from r by reads =
    redrawn_agree size vs (λ p. is_in p (moved_rect r by)) (with_values (moved_rect r by) from) (as_in_at by shape values)
    (λ p d t. written_as_at r by shape values from p d reads t)

twice : (p q : Bool) (m v : ℕ) → cond q m (cond p m v) ≡ cond (p || q) m v
twice true true m v = refl
twice true false m v = refl
twice false true m v = refl
twice false false m v = refl

-- points get the values that they have in a surface, and then some do again
pub redrawn_twice : (size shape : Size) (vs values : List ℕ) (a b : Area) (corner : Point) →
    redrawn size (redrawn size vs a (as_in_at corner shape values)) b (as_in_at corner shape values) ≡
    redrawn size vs (λ p. a p || b p) (as_in_at corner shape values)
unfolding redrawn
redrawn_twice size shape vs values a b corner =
    map_from-map_from (step_at size.w b (as_in_at corner shape values)) (step_at size.w a (as_in_at corner shape values)) 0 vs
    ∙ map_from-ext _ (step_at size.w (λ p. a p || b p) (as_in_at corner shape values)) 0 vs
    (λ i lt. rw zero-add (twice (a (point_of size.w i)) (b (point_of size.w i)) (value_of_point shape values (moved_back corner (point_of size.w i)))
    (get_or vs i 0)))

side_of : (n : ℕ) → unsigned_abs (pos n -ℤ pos 0) ≡ n
side_of n = omega (arith, ints)

-- the whole of a surface has its size
pub sides_of-whole : (size : Size) → sides_of (whole size) ≡ size
sides_of-whole size =
    let e : record { w = unsigned_abs (pos size.w -ℤ pos 0); h = unsigned_abs (pos size.h -ℤ pos 0) } ≡
    record { w = size.w; h = size.h } = rw (side_of size.w, side_of size.h) refl in
    e

pub whole_count : (size : Size) → width_of (whole size) * height_of (whole size) ≡ size.w * size.h
whole_count size = rw (side_of size.w, side_of size.h) refl

-- and lies in it
pub whole_inside : (size : Size) → LiesIn (whole size) size
whole_inside size = record {
  left = omega (arith, ints);
  across = omega (arith, ints);
  right = omega (arith, ints);
  top = omega (arith, ints);
  down = omega (arith, ints);
  bottom = omega (arith, ints);
}

in_whole : (w h x y : ℕ) → x < w → y < h → is_in (point_at x y) (whole (record { w = w; h = h })) ≡ true
in_whole w h x y a b = grind (arith, ints)

-- a surface whose every point got its value from a list has the list's values
pub whole_written : (size : Size) (vs from : List ℕ) → length vs ≡ size.w * size.h → length from ≡ size.w * size.h →
    redrawn size vs (λ p. is_in p (whole size)) (with_values (whole size) from) ≡ from
whole_written size vs from long same =
    same_grid size.w size.h (value_at size from) (redrawn size vs (λ p. is_in p (whole size)) (with_values (whole size) from))
    (length-redrawn size vs (λ p. is_in p (whole size)) (with_values (whole size) from) ∙ long)
    (λ x y hx hy. value_at-redrawn size vs (λ p. is_in p (whole size)) (with_values (whole size) from) x y long hx hy
    ∙ rw (in_whole size.w size.h x y hx hy, side_of x, side_of y, side_of size.w) refl)
    ∙ sym (same_grid size.w size.h (value_at size from) from same (λ x y hx hy. refl))

-- a point that a step draws on a copy of a rectangle
drawn_at : (r : Rect) (vs : List ℕ) (area : Area) (new : Change) (p : Point) → length vs ≡ width_of r * height_of r → IsIn p r →
    IsTrue (area (moved_back (corner_of r) p)) →
    value_of_point (sides_of r) (redrawn (sides_of r) vs area new) (moved_back (corner_of r) p) ≡
    value_after new (moved_back (corner_of r) p) (value_of_point (sides_of r) vs (moved_back (corner_of r) p))
drawn_at r vs area new p long h drawn =
    let dx = unsigned_abs (p.x -ℤ r.left) in
    let dy = unsigned_abs (p.y -ℤ r.top) in
    let point : point_at dx dy ≡ moved_back (corner_of r) p = same_point (point_at dx dy) (moved_back (corner_of r) p) (distance r.left p.x h.from_left)
    (distance r.top p.y h.from_top) in
    value_at-redrawn (sides_of r) vs area new dx dy long (below_width r.left r.right p.x h.from_left h.to_right)
    (below_width r.top r.bottom p.y h.from_top h.to_bottom)
    ∙ rw (point, drawn) refl

-- a step that gives a point the same whatever it had shows the same there over any values
pub redrawn_any : (r : Rect) (vs ws : List ℕ) (area : Area) (new : Change) (p : Point) → length vs ≡ width_of r * height_of r →
    length ws ≡ width_of r * height_of r → IsIn p r → IsTrue (area (moved_back (corner_of r) p)) →
    ((d e : ℕ) → value_after new (moved_back (corner_of r) p) d ≡ value_after new (moved_back (corner_of r) p) e) →
    value_of_point (sides_of r) (redrawn (sides_of r) vs area new) (moved_back (corner_of r) p) ≡
    value_of_point (sides_of r) (redrawn (sides_of r) ws area new) (moved_back (corner_of r) p)
redrawn_any r vs ws area new p long wide h drawn same =
    drawn_at r vs area new p long h drawn ∙ same _ _ ∙ sym (drawn_at r ws area new p wide h drawn)

-- A step on a copy of a rectangle of the surface, taken over to points of the surface, is the step on them: they lie in the rectangle
-- and in what was drawn of the copy, and the copy's change is the surface's seen from the rectangle's corner.
pub redrawn_through : (r : Rect) (size : Size) (vs copy : List ℕ) (area on_copy : Area) (new new_on_copy : Change) → ReadsRect r size vs copy →
    ((p : Point) → IsTrue (area p) → IsTrue (is_in p r)) → ((p : Point) → IsTrue (area p) → IsTrue (on_copy (moved_back (corner_of r) p))) →
    ((p : Point) (d : ℕ) → IsTrue (area p) → new_on_copy (moved_back (corner_of r) p) d ≡ new p d) →
    redrawn size vs area (as_in_at (corner_of r) (sides_of r) (redrawn (sides_of r) copy on_copy new_on_copy)) ≡ redrawn size vs area new
redrawn_through r size vs copy area on_copy new new_on_copy reads inside drawn same =
    redrawn_ext size vs area area (as_in_at (corner_of r) (sides_of r) (redrawn (sides_of r) copy on_copy new_on_copy)) new
    (λ i lt. choose (area (point_of size.w i)) _ _ _ (λ t. at i (point_of size.w i) t (ap (λ k. get_or vs k 0) (div-add-mod' i size.w))))
  where
    at : (i : ℕ) (p : Point) → IsTrue (area p) → value_of_point size vs p ≡ get_or vs i 0 →
        value_of_point (sides_of r) (redrawn (sides_of r) copy on_copy new_on_copy) (moved_back (corner_of r) p) ≡ value_after new p (get_or vs i 0)
    at i p t place =
        let h = (is_in-IsIn p r).0 (inside p t) in
        let before : value_of_point (sides_of r) copy (moved_back (corner_of r) p) ≡ get_or vs i 0 = rw reads (rect_value r size vs p h ∙ place) in
        drawn_at r copy on_copy new_on_copy p (ap length reads ∙ length-rect_values r size vs) h (drawn p t)
        ∙ rw (before, same p (get_or vs i 0) t) refl
