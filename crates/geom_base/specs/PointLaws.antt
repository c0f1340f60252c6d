-- Laws of rectangles and their points.
use Rattle.std.proofs.Common.{◌≡◌, refl, ℤ, pos, ◌+ℤ◌, ◌-ℤ◌, ◌≤ℤ◌, ◌<ℤ◌, ◌↔◌, arith, IsTrue, Bool}
use Rattle.std.specs.Int.{int_max, int_min}
use Rattle.std.proofs.lemmas.Int.{ints, clamps}
use Rattle.geom_base.specs.Points.{HasPoints, IsIn, is_in, moved}
use Rattle.geom_base.specs.declared.point.Point.{Point}
use Rattle.geom_base.specs.declared.rect.Rect.{Rect}

-- the points of two rectangles lie between the greater first edges and the lesser last ones
pub IsIn-common : (a b r : Rect) → r.left ≡ int_max a.left b.left → r.top ≡ int_max a.top b.top → r.right ≡ int_min a.right b.right →
    r.bottom ≡ int_min a.bottom b.bottom →
    (p : Point) → IsIn p r ↔ (IsIn p a × IsIn p b)
IsIn-common a b r l t ri bo p = (
  λ h. (
    record {
      from_left = omega (arith, ints, clamps);
      to_right = omega (arith, ints, clamps);
      from_top = omega (arith, ints, clamps);
      to_bottom = omega (arith, ints, clamps);
    },
    record {
      from_left = omega (arith, ints, clamps);
      to_right = omega (arith, ints, clamps);
      from_top = omega (arith, ints, clamps);
      to_bottom = omega (arith, ints, clamps);
    },
  ),
  λ h. record {
    from_left = omega (arith, ints, clamps, h.0, h.1);
    to_right = omega (arith, ints, clamps, h.0, h.1);
    from_top = omega (arith, ints, clamps, h.0, h.1);
    to_bottom = omega (arith, ints, clamps, h.0, h.1);
  },
)

pub IsIn-moved : (r s : Rect) (by : Point) → s.left ≡ r.left +ℤ by.x → s.top ≡ r.top +ℤ by.y → s.right ≡ r.right +ℤ by.x → s.bottom ≡ r.bottom +ℤ by.y →
    (p : Point) → IsIn (moved p by) s ↔ IsIn p r
IsIn-moved r s by l t ri bo p = (
  λ h. record {
    from_left = omega (arith, ints, h.from_left);
    to_right = omega (arith, ints, h.to_right);
    from_top = omega (arith, ints, h.from_top);
    to_bottom = omega (arith, ints, h.to_bottom);
  },
  λ h. record { from_left = omega (arith, ints); to_right = omega (arith, ints); from_top = omega (arith, ints); to_bottom = omega (arith, ints) },
)

pub first_is_in : (r : Rect) → r.left <ℤ r.right → r.top <ℤ r.bottom → IsIn (record { x = r.left; y = r.top }) r
first_is_in r a b = record { from_left = omega (arith, ints); to_right = a; from_top = omega (arith, ints); to_bottom = b }

-- a rectangle whose last column is not past its first has no point
pub none_in : (z : Rect) → z.right ≤ℤ z.left → (p : Point) → IsIn p z → ⊥
none_in z empty p h = omega (arith, ints)

-- where the lesser last edges are not past the greater first ones, the two rectangles have no common point
pub IsIn-apart_across : (a b z : Rect) (first last : ℤ) → first ≡ int_max a.left b.left → last ≡ int_min a.right b.right → last ≤ℤ first → z.right ≤ℤ z.left →
    (p : Point) → IsIn p z ↔ (IsIn p a × IsIn p b)
IsIn-apart_across a b z first last f l apart empty p = (λ h. absurd (none_in z empty p h), λ h. absurd (omega (arith, ints, clamps, h.0, h.1)))

pub IsIn-apart_down : (a b z : Rect) (first last : ℤ) → first ≡ int_max a.top b.top → last ≡ int_min a.bottom b.bottom → last ≤ℤ first → z.right ≤ℤ z.left →
    (p : Point) → IsIn p z ↔ (IsIn p a × IsIn p b)
IsIn-apart_down a b z first last f l apart empty p = (λ h. absurd (none_in z empty p h), λ h. absurd (omega (arith, ints, clamps, h.0, h.1)))

-- a point is in a rectangle exactly where the test says so
pub is_in-IsIn : (p : Point) (r : Rect) → IsTrue (is_in p r) ↔ IsIn p r
is_in-IsIn p r = grind (arith, ints)

-- a point is in a rectangle where it is within both pairs of edges
pub IsIn-both : (p : Point) (r : Rect) (b : Bool) → IsTrue b ↔ ((r.top ≤ℤ p.y) × (p.y <ℤ r.bottom)) → (r.left ≤ℤ p.x) × (p.x <ℤ r.right) → IsTrue b ↔ IsIn p r
IsIn-both p r b down across =
    (λ t. record { from_left = across.0; to_right = across.1; from_top = (down.0 t).0; to_bottom = (down.0 t).1 }, λ h. down.1 (h.from_top, h.to_bottom))

-- rectangles with the same edges
pub same_edges : (a b : Rect) → a.left ≡ b.left → a.top ≡ b.top → a.right ≡ b.right → a.bottom ≡ b.bottom → a ≡ b
same_edges a b l t r d =
    let e : record { left = a.left; top = a.top; right = a.right; bottom = a.bottom } ≡
    record { left = b.left; top = b.top; right = b.right; bottom = b.bottom } = rw (l, t, r, d) refl in
    e

-- a rectangle with a point has points
pub has_point : {p : Point} {r : Rect} → IsIn p r → HasPoints r
has_point h = record { across = omega (arith, ints, h.from_left, h.to_right); down = omega (arith, ints, h.from_top, h.to_bottom) }

-- a rectangle lies within the edges of another
pub record LiesBetween (outer r : Rect) : Type 0 where
  pub left : outer.left ≤ℤ r.left
  pub right : r.right ≤ℤ outer.right
  pub top : outer.top ≤ℤ r.top
  pub bottom : r.bottom ≤ℤ outer.bottom

-- a rectangle with points lies so in one that has them all
pub lies_between : (r s : Rect) → ((p : Point) → IsIn p r → IsIn p s) → HasPoints r → LiesBetween s r
lies_between r s inside h =
    let first = inside (record { x = r.left; y = r.top }) (first_is_in r h.across h.down) in
    let last = inside (record { x = r.right -ℤ pos 1; y = r.bottom -ℤ pos 1 }) (record {
      from_left = omega (arith, ints, h.across);
      to_right = omega (arith, ints);
      from_top = omega (arith, ints, h.down);
      to_bottom = omega (arith, ints);
    }) in
    record {
      left = first.from_left;
      right = omega (arith, ints, last.to_right);
      top = first.from_top;
      bottom = omega (arith, ints, last.to_bottom);
    }
