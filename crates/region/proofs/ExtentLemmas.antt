use Rattle.std.proofs.Common.{◌≡◌, ◌↔◌, ℕ, ◌<◌, ◌≤◌, ◌+◌, ◌-ℤ◌, pos, List, [], ◌∷◌, Bool, true, false, ◌||◌, ◌&&◌, IsTrue}
use Rattle.std.proofs.Common.{◌∙◌, refl, ap, sym, arith, length, get_or, drop, drop-cons, zero, suc, negsuc, map}
use Rattle.std.proofs.lemmas.Int.{ints, clamps}
use Rattle.std.specs.Int.{int_min, int_max}
use Rattle.std.proofs.lemmas.List.Elements.{All-head, All-tail, All-cons, All-weaker}
use Rattle.std.proofs.lemmas.Bool.{false≢true}
use Rattle.std.specs.List.{All}
use Rattle.geom_base.specs.declared.point.Point.{Point}
use Rattle.geom_base.specs.declared.rect.Rect.{Rect}
use Rattle.geom_base.specs.Points.{is_in, is_in_some, IsIn, HasPoints, Meet, no_rect, moved_rect, RectMoves, moved_back}
use Rattle.region.specs.Extents.{AreExtents}
use Rattle.region.specs.InnerExtents.{Surrounds, IsAround}
use Rattle.region.specs.Canonical.{point_from}
use Rattle.region.proofs.MoveLemmas.{moved_is_in, moved_is_in_some}

in_edges : (p : Point) (r : Rect) → IsTrue (is_in p r) → IsIn p r
in_edges p r h = record { from_left = grind (arith, ints); to_right = grind (arith, ints); from_top = grind (arith, ints); to_bottom = grind (arith, ints) }

in_test : (p : Point) (r : Rect) → IsIn p r → IsTrue (is_in p r)
in_test p r h =
    let a = h.from_left in let b = h.to_right in let c = h.from_top in let d = h.to_bottom in grind (arith, ints, a, b, c, d)

-- a point of what is surrounded
in_outer : (p : Point) (outer r : Rect) → Surrounds outer r → IsTrue (is_in p r) → IsTrue (is_in p outer)
in_outer p outer r s h =
    let i = in_edges p r h in
    in_test p outer (record {
      from_left = omega (arith, ints, s.left, i.from_left);
      to_right = omega (arith, ints, s.right, i.to_right);
      from_top = omega (arith, ints, s.top, i.from_top);
      to_bottom = omega (arith, ints, s.bottom, i.to_bottom);
    })

either : (a b : Bool) → IsTrue (a || b) → (a ≡ false → IsTrue b)
either true b h e = absurd (false≢true (sym e))
either false b h e = h

in_here : (p : Point) (outer r : Rect) (t : Bool) (rest : Bool) → is_in p r ≡ t → Surrounds outer r → (IsTrue rest → IsTrue (is_in p outer)) →
    IsTrue (t || rest) →
    IsTrue (is_in p outer)
in_here p outer r true rest e s k h = in_outer p outer r s e
in_here p outer r false rest e s k h = k h

in_all : (p : Point) (outer : Rect) (rects : List Rect) → All (Surrounds outer) rects → IsTrue (is_in_some p rects) → IsTrue (is_in p outer)
in_all p outer [] a h = absurd (false≢true h)
in_all p outer (r ∷ rects) a h = in_here p outer r (is_in p r) (is_in_some p rects) refl (All-head (Surrounds outer) r rects a)
    (λ k. in_all p outer rects (All-tail (Surrounds outer) r rects a) k) h

-- what has the points of a rectangle surrounds it
surrounds_points : (outer r : Rect) → HasPoints r → ((p : Point) → IsTrue (is_in p r) → IsTrue (is_in p outer)) → Surrounds outer r
surrounds_points outer r h all =
    let first : Point = record { x = r.left; y = r.top } in
    let last : Point = record { x = r.right -ℤ pos 1; y = r.bottom -ℤ pos 1 } in
    let f = in_edges first outer (all first (in_test first r (record {
      from_left = omega (arith, ints);
      to_right = h.across;
      from_top = omega (arith, ints);
      to_bottom = h.down;
    }))) in
    let l = in_edges last outer (all last (in_test last r (record {
      from_left = omega (arith, ints, h.across);
      to_right = omega (arith, ints);
      from_top = omega (arith, ints, h.down);
      to_bottom = omega (arith, ints);
    }))) in
    record {
      left = f.from_left;
      top = f.from_top;
      right = omega (arith, ints, l.to_right);
      bottom = omega (arith, ints, l.to_bottom);
    }

first_of : (a b : Bool) → IsTrue a → IsTrue (a || b)
first_of true b h = refl
first_of false b h = absurd (false≢true h)

other_of : (a b : Bool) → IsTrue b → IsTrue (a || b)
other_of true b h = refl
other_of false b h = h

surrounds_none : (outer : Rect) → All (Surrounds outer) []
surrounds_none outer k d lt = absurd (omega (arith, lt))

surrounds_all : (outer : Rect) (rects : List Rect) → All HasPoints rects → ((p : Point) → IsTrue (is_in_some p rects) → IsTrue (is_in p outer)) →
    All (Surrounds outer) rects
surrounds_all outer [] h all = surrounds_none outer
surrounds_all outer (r ∷ rects) h all = All-cons (Surrounds outer) r rects
    (surrounds_points outer r (All-head HasPoints r rects h) (λ p k. all p (first_of (is_in p r) (is_in_some p rects) k)))
    (surrounds_all outer rects (All-tail HasPoints r rects h) (λ p k. all p (other_of (is_in p r) (is_in_some p rects) k)))

itself : (r : Rect) → Surrounds r r
itself r = record { left = omega (arith, ints); top = omega (arith, ints); right = omega (arith, ints); bottom = omega (arith, ints) }

-- what is around all is the smallest rectangle
pub around_is_extents : (rects rest : List Rect) (r : Rect) → rest ≡ [] → All HasPoints rects → IsAround rects rest r → AreExtents rects r
around_is_extents rects rest r e h a =
    let none : (outer : Rect) → All (Surrounds outer) rest = λ outer. rw e (surrounds_none outer) in
    record {
      within = λ p k. in_all p r rects ((a r).0 (itself r, none r)) k;
      least = λ other all p k. in_outer p other r ((a other).1 (surrounds_all other rects h all)).0 k;
    }

-- a rectangle around two
around_first : (outer a b r : Rect) → r.left ≡ int_min a.left b.left → r.top ≡ int_min a.top b.top → r.right ≡ int_max a.right b.right →
    r.bottom ≡ int_max a.bottom b.bottom → Surrounds outer r → Surrounds outer a
around_first outer a b r l t k m s = record {
  left = omega (arith, ints, clamps, l, s.left);
  top = omega (arith, ints, clamps, t, s.top);
  right = omega (arith, ints, clamps, k, s.right);
  bottom = omega (arith, ints, clamps, m, s.bottom);
}

around_second : (outer a b r : Rect) → r.left ≡ int_min a.left b.left → r.top ≡ int_min a.top b.top → r.right ≡ int_max a.right b.right →
    r.bottom ≡ int_max a.bottom b.bottom → Surrounds outer r → Surrounds outer b
around_second outer a b r l t k m s = record {
  left = omega (arith, ints, clamps, l, s.left);
  top = omega (arith, ints, clamps, t, s.top);
  right = omega (arith, ints, clamps, k, s.right);
  bottom = omega (arith, ints, clamps, m, s.bottom);
}

around_both : (outer a b r : Rect) → r.left ≡ int_min a.left b.left → r.top ≡ int_min a.top b.top → r.right ≡ int_max a.right b.right →
    r.bottom ≡ int_max a.bottom b.bottom → Surrounds outer a → Surrounds outer b → Surrounds outer r
around_both outer a b r l t k m s u = record {
  left = omega (arith, ints, clamps, l, s.left, u.left);
  top = omega (arith, ints, clamps, t, s.top, u.top);
  right = omega (arith, ints, clamps, k, s.right, u.right);
  bottom = omega (arith, ints, clamps, m, s.bottom, u.bottom);
}

-- and then each is taken in
pub next_is_around : (rects rest next : List Rect) (r x new : Rect) → rest ≡ x ∷ next →
    new.left ≡ int_min r.left x.left → new.top ≡ int_min r.top x.top → new.right ≡ int_max r.right x.right → new.bottom ≡ int_max r.bottom x.bottom →
    IsAround rects rest r → IsAround rects next new
next_is_around rects rest next r x new e l t k m a outer = (
  λ h. (a outer).0 (
    around_first outer r x new l t k m h.0,
    rw e (All-cons (Surrounds outer) x next (around_second outer r x new l t k m h.0) h.1),
  ),
  λ h.
      let all = (a outer).1 h in
      let some : All (Surrounds outer) (x ∷ next) = rw e at all.1 in
      (around_both outer r x new l t k m all.0 (All-head (Surrounds outer) x next some), All-tail (Surrounds outer) x next some),
)

-- the list from a rectangle on, and from past the last one on
pub from_here : (rects : List Rect) (n : ℕ) → n < length rects → drop n rects ≡ get_or rects n no_rect ∷ drop (n + 1) rects
from_here rects n h = let next : n + 1 ≡ suc n = omega arith in rw next (drop-cons rects n no_rect h)

pub none_left : (rects : List Rect) (n : ℕ) → length rects ≤ n → drop n rects ≡ []
none_left [] zero h = refl
none_left [] (suc n) h = refl
none_left (r ∷ rects) zero h = absurd (omega (arith, h))
none_left (r ∷ rects) (suc n) h = none_left rects n (omega (arith, h))

-- where two rectangles share no point, nor do those whose extents they are
no_common : (a b : List Rect) (p : Point) (t u : Bool) → is_in_some p a ≡ t → is_in_some p b ≡ u → ((is_in_some p a ≡ true) → (is_in_some p b ≡ true) → ⊥) →
    (t && u) ≡ false
no_common a b p true true e f h = absurd (h e f)
no_common a b p true false e f h = refl
no_common a b p false u e f h = refl

pub apart_is_nothing : (a b : List Rect) (x y : Rect) → AreExtents a x → AreExtents b y → (¬ Meet x y) → (p : Point) →
    (is_in_some p a && is_in_some p b) ≡ false
apart_is_nothing a b x y h k none p = no_common a b p (is_in_some p a) (is_in_some p b) refl refl
    (λ e f. none (record { point = p; first = in_edges p x (h.within p e); second = in_edges p y (k.within p f) }))

-- what surrounds all rectangles is what surrounds their extents
pub extents_surround : (outer : Rect) (rects : List Rect) (e : Rect) → HasPoints e → All HasPoints rects → AreExtents rects e →
    All (Surrounds outer) rects ↔ Surrounds outer e
extents_surround outer rects e points h extents = (
  λ all. surrounds_points outer e points (extents.least outer (λ p k. in_all p outer rects all k)),
  λ s. surrounds_all outer rects h (λ p k. in_outer p outer e s (extents.within p k)),
)

-- no point is in a rectangle without points
pub nowhere : (e : Rect) → (¬ HasPoints e) → (p : Point) → IsTrue (is_in p e) → ⊥
nowhere e none p k =
    let i = in_edges p e k in
    none (record { across = omega (arith, ints, i.from_left, i.to_right); down = omega (arith, ints, i.from_top, i.to_bottom) })

pub no_rects_without : (rects : List Rect) (e : Rect) → (¬ HasPoints e) → All HasPoints rects → AreExtents rects e → rects ≡ []
no_rects_without [] e none h extents = refl
no_rects_without (r ∷ rects) e none h extents =
    let points = All-head HasPoints r rects h in
    let first : Point = record { x = r.left; y = r.top } in
    let inside = in_test first r (record {
      from_left = omega (arith, ints);
      to_right = points.across;
      from_top = omega (arith, ints);
      to_bottom = points.down;
    }) in
    absurd (nowhere e none first (extents.within first (first_of (is_in first r) (is_in_some first rects) inside)))

-- where extents lie in a rectangle, so do all points
pub all_inside : (rects : List Rect) (extents bounds : Rect) → AreExtents rects extents → ((p : Point) → IsTrue (is_in p extents) → IsTrue (is_in p bounds)) →
    (p : Point) → is_in_some p rects ≡ (is_in_some p rects && is_in p bounds)
all_inside rects extents bounds h within p = here (is_in_some p rects) refl
  where
    here : (t : Bool) → is_in_some p rects ≡ t → t ≡ (t && is_in p bounds)
    here true e = sym (within p (h.within p e))
    here false e = refl

-- extents moved

-- the points that can move and stay where code can hold them
abbrev reach : Point → Rect
reach by = record { left = negsuc 2147483647 -ℤ by.x; top = negsuc 2147483647 -ℤ by.y; right = pos 2147483647 -ℤ by.x; bottom = pos 2147483647 -ℤ by.y }

in_reach : (by : Point) (r : Rect) → RectMoves by r → Surrounds (reach by) r
in_reach by r h = record {
  left = omega (arith, ints, h.left);
  top = omega (arith, ints, h.top);
  right = omega (arith, ints, h.right);
  bottom = omega (arith, ints, h.bottom);
}

-- the edges of the smallest rectangle can move where those of all others can
pub extents_can_move : (by : Point) (rects : List Rect) (e : Rect) → HasPoints e → AreExtents rects e → All (RectMoves by) rects → RectMoves by e
extents_can_move by rects e points h all =
    let within = All-weaker (RectMoves by) (Surrounds (reach by)) (in_reach by) rects all in
    let s = surrounds_points (reach by) e points (h.least (reach by) (λ p k. in_all p (reach by) rects within k)) in
    record {
      left = omega (arith, ints, s.left, s.right, points.across);
      top = omega (arith, ints, s.top, s.bottom, points.down);
      right = omega (arith, ints, s.left, s.right, points.across);
      bottom = omega (arith, ints, s.top, s.bottom, points.down);
    }

abbrev negated : Point → Point
negated by = record { x = pos 0 -ℤ by.x; y = pos 0 -ℤ by.y }

there_and_back : (by p : Point) → moved_back by (moved_back (negated by) p) ≡ p
there_and_back by p =
    let x : (p.x -ℤ (pos 0 -ℤ by.x)) -ℤ by.x ≡ p.x = omega (arith, ints) in
    let y : (p.y -ℤ (pos 0 -ℤ by.y)) -ℤ by.y ≡ p.y = omega (arith, ints) in
    ap (λ z. point_from z ((p.y -ℤ (pos 0 -ℤ by.y)) -ℤ by.y)) x ∙ ap (point_from p.x) y

back_and_there : (by p : Point) → moved_back (negated by) (moved_back by p) ≡ p
back_and_there by p =
    let x : (p.x -ℤ by.x) -ℤ (pos 0 -ℤ by.x) ≡ p.x = omega (arith, ints) in
    let y : (p.y -ℤ by.y) -ℤ (pos 0 -ℤ by.y) ≡ p.y = omega (arith, ints) in
    ap (λ z. point_from z ((p.y -ℤ by.y) -ℤ (pos 0 -ℤ by.y))) x ∙ ap (point_from p.x) y

pub extents_move : (by : Point) (rects : List Rect) (e : Rect) → AreExtents rects e → AreExtents (map (λ r. moved_rect r by) rects) (moved_rect e by)
extents_move by rects e h = record {
  within = λ p k. moved_is_in p by e ∙ h.within (moved_back by p) (sym (moved_is_in_some p by rects) ∙ k);
  least = λ other all p k.
      let from : Rect = moved_rect other (negated by) in
      let each = λ (q : Point) (t : IsTrue (is_in_some q rects)). let moved : Point = moved_back (negated by) q in
      moved_is_in q (negated by) other ∙ all moved (moved_is_in_some moved by rects ∙ ap (λ s. is_in_some s rects) (there_and_back by q) ∙ t) in
      ap (λ q. is_in q other) (sym (back_and_there by p)) ∙ sym (moved_is_in (moved_back by p) (negated by) other)
      ∙ h.least from each (moved_back by p) (sym (moved_is_in p by e) ∙ k);
}

-- without points they stay
pub no_extents_move : (by : Point) (rects : List Rect) (e : Rect) → (¬ HasPoints e) → AreExtents rects e → AreExtents (map (λ r. moved_rect r by) rects) e
no_extents_move by rects e none h = record {
  within = λ p k. absurd (nowhere e none (moved_back by p) (h.within (moved_back by p) (sym (moved_is_in_some p by rects) ∙ k)));
  least = λ other all p k. absurd (nowhere e none p k);
}
