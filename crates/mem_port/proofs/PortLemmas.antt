-- What the calls of a port over memory draw.
use Rattle.std.proofs.Common.{◌≡◌, ◌∙◌, ℕ, ℤ, pos, ◌+◌, ◌*◌, ◌<◌, ◌≤◌, ◌+ℤ◌, ◌-ℤ◌, ◌≤ℤ◌, ◌<ℤ◌, Bool, true, false, ◌||◌, ◌==◌, IsTrue, if◌then◌else◌}
use Rattle.std.proofs.Common.{List, length, take, refl, ap, sym, arith, le_refl, le_of_eq, true≢false, Some, unsigned_abs}
use Rattle.std.proofs.lemmas.Int.{ints}
use Rattle.std.proofs.lemmas.List.{get_or-take, length-take-le}
use Rattle.std.proofs.Math.Nat.{mul-le-mul_left}
use Rattle.std.specs.List.{list_any}
use Rattle.geom_base.specs.declared.point.Point.{Point}
use Rattle.geom_base.specs.declared.port_answer.PortAnswer.TheVariants.{Done, Fault}
use Rattle.geom_base.specs.declared.rect.Rect.{Rect}
use Rattle.geom_base.specs.declared.size.Size.{Size}
use Rattle.geom_base.specs.declared.target.Target.{Target}
use Rattle.geom_base.specs.Drawn.{Drawn, pushed}
use Rattle.geom_base.specs.PointLaws.{is_in-IsIn}
use Rattle.geom_base.specs.Points.{HasPoints, height_of, is_in, is_in_some, no_rect, sides_of, width_of}
use Rattle.geom_base.specs.Step.{Area, Change, nowhere}
use Rattle.surf_obj.specs.RectLaws.{redrawn_agree}
use Rattle.surf_obj.specs.Rects.{with_values}
use Rattle.copy_port.specs.Laws.{draws_rect, drawn_on-nowhere, drawn_on-same, pushes_none}
use Rattle.copy_port.specs.Port.{Draws, InTarget, Keeps}
use Rattle.copy_port.specs.State.{PortState, Rose, Shown, drawn_on}
use Rattle.mem_port.specs.Calls.{next_fault, part_of, pushed_of}
use Rattle.mem_port.specs.Memory.{surface_in}
use Rattle.mem_port.specs.Port.{rest_of, shown_with, state_with}
use Rattle.mem_port.specs.Rows.{row_of}
use Rattle.mem_port.specs.declared.mem_surf.MemSurf.{MemSurf}

-- a fault that was counted
pub rose_of : (failed : Bool) (f g : ℕ) → failed ≡ true → g ≡ (if failed then next_fault f else f) → Rose f g
rose_of true f g e h = le_of_eq (sym h)
rose_of false f g e h = absurd (true≢false (sym e))

pub rose_before : (f g h : ℕ) → f ≤ g → h ≡ next_fault g → Rose f h
rose_before f g h a e = omega (arith, e)

pub rose_then : (f g h : ℕ) → Rose f g → g ≤ h → Rose f h
rose_then f g h a b = omega arith

pub same_shown : (a b c d : MemSurf) → c ≡ a → d ≡ b → shown_with (surface_in c) (surface_in d) ≡ shown_with (surface_in a) (surface_in b)
same_shown a b c d e f = rw (e, f) refl

-- a call that failed before it did anything
pub fault_keeps : (a b c d : MemSurf) (f g written written' m n : ℕ) → c ≡ a → d ≡ b → written' ≡ written → n ≡ m → f ≤ g → Rose f g →
    Keeps (state_with a b f written m) (state_with c d g written' n) Fault
fault_keeps a b c d f g written written' m n screen bitmap same cuts later rose = record {
  shown = same_shown a b c d screen bitmap;
  written = same;
  rest = ap rest_of cuts;
  later = later;
  cause = rose;
}

pub fault_draws : (t : Target) (new : Change) (area : Area) (most : ℕ) (a b c d : MemSurf) (f g written written' m n : ℕ) (list : Drawn) → c ≡ a → d ≡ b →
    n ≡ m → f ≤ g → Rose f g → Draws t new area most (state_with a b f written m) (state_with c d g written' n) list list Fault
fault_draws t new area most a b c d f g written written' m n list screen bitmap cuts later rose = record {
  more = nowhere;
  pushes = pushes_none most list;
  within = λ p h. absurd (true≢false (sym h));
  shown = same_shown a b c d screen bitmap ∙ sym (drawn_on-nowhere t new (shown_with (surface_in a) (surface_in b)));
  done = tt;
  rest = ap rest_of cuts;
  later = later;
  cause = rose;
}

-- a fault after some of the points were drawn
pub broken_draws : (t : Target) (new : Change) (some area : Area) (most : ℕ) (before mid after : PortState) (d e : Drawn) →
    Draws t new some 1 mid after d e Done → mid.shown ≡ before.shown → mid.rest ≡ before.rest → before.faults ≤ mid.faults → Rose before.faults mid.faults →
    ((p : Point) → IsTrue (some p) → IsTrue (area p)) → 1 ≤ most → Draws t new area most before after d e Fault
broken_draws t new some area most before mid after d e h shown rest later rose wider least = record {
  more = h.more;
  pushes = record { points = h.pushes.points; spare = omega (arith, h.pushes.spare, least); room = h.pushes.room; longer = h.pushes.longer };
  within = λ p i. wider p (h.within p i);
  shown = h.shown ∙ ap (drawn_on t new h.more) shown;
  done = tt;
  rest = h.rest ∙ rest;
  later = omega (arith, later, h.later);
  cause = rose_then before.faults mid.faults after.faults rose h.later;
}

-- the first row of a rectangle with points

pub row_height : (r : Rect) → height_of (row_of r) ≡ 1
row_height r = omega (arith, ints)

pub row_within : (r : Rect) (p : Point) → HasPoints r → IsTrue (is_in p (row_of r)) → IsTrue (is_in p r)
row_within r p h i =
    let j = (is_in-IsIn p (row_of r)).0 i in
    (is_in-IsIn p r).1 (record { from_left = j.from_left; to_right = j.to_right; from_top = j.from_top; to_bottom = omega (arith, ints, j.to_bottom, h.down) })

pub row_inside : (m : Shown) (t : Target) (r : Rect) → InTarget m t r → InTarget m t (row_of r)
row_inside m t r h = record {
  alive = h.alive;
  rect = record {
    left = h.rect.left;
    across = h.rect.across;
    right = h.rect.right;
    top = h.rect.top;
    down = omega (arith, ints);
    bottom = omega (arith, ints, h.points.down, h.rect.bottom);
  };
  points = record { across = h.points.across; down = omega (arith, ints) };
}

some_height : (top bottom : ℤ) → top <ℤ bottom → 1 ≤ unsigned_abs (bottom -ℤ top)
some_height top bottom h = omega (arith, ints)

pub row_count : (r : Rect) (n : ℕ) → HasPoints r → n ≡ width_of r * height_of r → width_of r ≤ n
row_count r n h e = let f = mul-le-mul_left (width_of r) (some_height r.top r.bottom h.down) in omega (arith, e, f)

in_row : (l r x : ℤ) → l ≤ℤ x → x <ℤ r → unsigned_abs (x -ℤ l) < unsigned_abs (r -ℤ l)
in_row l r x a b = omega (arith, ints)

no_row : (t y : ℤ) → t ≤ℤ y → y <ℤ (t +ℤ pos 1) → unsigned_abs (y -ℤ t) ≡ 0
no_row t y a b = omega (arith, ints)

-- its values are the first ones
row_values : (r : Rect) (from : List ℕ) (p : Point) (d : ℕ) → IsTrue (is_in p (row_of r)) →
    with_values (row_of r) (take (width_of r) from) p d ≡ with_values r from p d
row_values r from p d i =
    let j = (is_in-IsIn p (row_of r)).0 i in
    let place = unsigned_abs (p.y -ℤ r.top) * width_of r + unsigned_abs (p.x -ℤ r.left) in
    let x = in_row r.left r.right p.x j.from_left j.to_right in
    let y = no_row r.top p.y j.from_top j.to_bottom in
    let below : place < width_of r = rw y (omega (arith, x)) in
    ap Some (get_or-take (width_of r) from place 0 below)

pub row_drawn : (t : Target) (r : Rect) (from : List ℕ) (m : Shown) →
    drawn_on t (with_values (row_of r) (take (width_of r) from)) (λ p. is_in p (row_of r)) m ≡ drawn_on t (with_values r from) (λ p. is_in p (row_of r)) m
row_drawn t r from m =
    drawn_on-same t (with_values (row_of r) (take (width_of r) from)) (with_values r from) (λ p. is_in p (row_of r)) m
    (λ s is. ap (λ (values : List ℕ). record { size = s.size; format = s.format; table = s.table; values = values })
    (redrawn_agree s.size s.values (λ p. is_in p (row_of r)) (with_values (row_of r) (take (width_of r) from)) (with_values r from)
    (λ p d i. row_values r from p d i)))

-- the row as the code makes it, by its rectangle and that one's size

pub row_width : (r row : Rect) (size : Size) → row ≡ row_of r → size ≡ sides_of row → size.w ≡ width_of r
row_width r row size e f = ap (λ (s : Size). s.w) f ∙ ap width_of e

pub row_taken : (r row : Rect) (size : Size) (from : List ℕ) → row ≡ row_of r → size ≡ sides_of row → HasPoints r → length from ≡ width_of r * height_of r →
    length (take size.w from) ≡ size.w
row_taken r row size from e f h long =
    let w = row_width r row size e f in
    let n = row_count r (length from) h long in
    length-take-le size.w from (omega (arith, w, n))

pub row_total : (r row : Rect) (size : Size) → row ≡ row_of r → size ≡ sides_of row → size.w ≡ width_of row * height_of row
row_total r row size e f = let one = ap (λ h. width_of r * h) (row_height r) in rw (f, e) (omega (arith, one))

pub row_shown : (t : Target) (r row : Rect) (size : Size) (from : List ℕ) (m n : Shown) → row ≡ row_of r → size ≡ sides_of row →
    n ≡ drawn_on t (with_values row (take size.w from)) (λ p. is_in p row) m → n ≡ drawn_on t (with_values r from) (λ p. is_in p (row_of r)) m
row_shown t r row size from m n is sides shown = let w = row_width r row size is sides in shown ∙ (rw (w, is) (row_drawn t r from m))

pub row_draws : (t : Target) (r row : Rect) (size : Size) (from : List ℕ) (before after : PortState) (d e : Drawn) → row ≡ row_of r → size ≡ sides_of row →
    after.shown ≡ drawn_on t (with_values row (take size.w from)) (λ p. is_in p row) before.shown → after.rest ≡ before.rest → before.faults ≤ after.faults →
    e.rects ≡ pushed d.rects row → ((p : Point) → is_in_some p e.rects ≡ (is_in_some p d.rects || is_in p row)) → d.spare ≤ e.spare + 1 →
    length d.rects + d.spare ≤ length e.rects + e.spare → Draws t (with_values r from) (λ p. is_in p (row_of r)) 1 before after d e Done
row_draws t r row size from before after d e is sides shown rest later rects points spare room =
    draws_rect t (with_values r from) (row_of r) 1 before after d e (row_shown t r row size from before.shown after.shown is sides shown) rest later
    (le_refl 1) (rects ∙ ap (pushed d.rects) is) (λ p. points p ∙ ap (λ (q : Rect). is_in_some p d.rects || is_in p q) is) spare room

-- what a write draws and pushes by its number

pub holds_at : (calls counted : ℕ) (numbers kept : List ℕ) → counted ≡ calls → kept ≡ numbers →
    list_any (λ n. n == counted) kept ≡ list_any (λ n. n == calls) numbers
holds_at calls counted numbers kept e f = rw (e, f) refl

none_in : (p : Point) → is_in p no_rect ≡ false
none_in p = grind (arith, ints)

pub part_failed : (f b : Bool) (t : Target) (new : Change) (r : Rect) (m n : Shown) → f ≡ true → n ≡ m →
    n ≡ drawn_on t new (λ p. is_in p (part_of f b r)) m
part_failed true b t new r m n e same =
    same ∙ sym (drawn_on-nowhere t new m) ∙ ap (λ (a : Area). drawn_on t new a m) (λ i p. sym (none_in p) i)
part_failed false b t new r m n e same = absurd (true≢false (sym e))

pub part_broken : (f b : Bool) (r : Rect) → f ≡ false → b ≡ true → part_of f b r ≡ row_of r
part_broken f b r e g = rw (e, g) refl

pub part_whole : (f b : Bool) (r : Rect) → f ≡ false → b ≡ false → part_of f b r ≡ r
part_whole f b r e g = rw (e, g) refl

pub pushed_failed : (f b : Bool) (r : Rect) (rects : List Rect) → f ≡ true → rects ≡ pushed_of f b r rects
pushed_failed f b r rects e = rw e refl

pub pushed_part : (f b : Bool) (r part : Rect) (rects after : List Rect) → f ≡ false → part_of f b r ≡ part → after ≡ pushed rects part →
    after ≡ pushed_of f b r rects
pushed_part f b r part rects after e g is = is ∙ ap (pushed rects) (sym g) ∙ (rw e refl)

pub drawn_part : (f b : Bool) (r part : Rect) (t : Target) (new : Change) (m n : Shown) → part_of f b r ≡ part →
    n ≡ drawn_on t new (λ p. is_in p part) m → n ≡ drawn_on t new (λ p. is_in p (part_of f b r)) m
drawn_part f b r part t new m n g is = is ∙ ap (λ (q : Rect). drawn_on t new (λ p. is_in p q) m) (sym g)
