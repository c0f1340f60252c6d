-- Rectangles that lie within bounds.
use Rattle.std.proofs.Common.{◌≡◌, ◌∙◌, List, [], Bool, ◌∷◌, true, sym, arith, pos, ◌-ℤ◌, ◌&&◌}
use Rattle.std.specs.List.{All}
use Rattle.std.proofs.lemmas.Bool.{and_parts, or_left, or_right}
use Rattle.std.proofs.lemmas.Int.{ints}
use Rattle.std.proofs.lemmas.List.Elements.{All-nil, All-cons, All-head, All-tail}
use Rattle.geom_base.specs.declared.point.Point.{Point}
use Rattle.geom_base.specs.declared.rect.Rect.{Rect}
use Rattle.geom_base.specs.Points.{IsIn, is_in, is_in_some, HasPoints}
use Rattle.geom_base.specs.PointLaws.{is_in-IsIn}
use Rattle.region.specs.Region.{IsRegionOf}
use Rattle.clip_obj.specs.Clip.{LiesWithin}

first_point : (r : Rect) → HasPoints r → is_in (record { x = r.left; y = r.top }) r ≡ true
first_point r h = (is_in-IsIn (record { x = r.left; y = r.top }) r).1
    (record { from_left = omega (arith, ints); to_right = h.across; from_top = omega (arith, ints); to_bottom = h.down })

last_point : (r : Rect) → HasPoints r → is_in (record { x = r.right -ℤ pos 1; y = r.bottom -ℤ pos 1 }) r ≡ true
last_point r h = (is_in-IsIn (record { x = r.right -ℤ pos 1; y = r.bottom -ℤ pos 1 }) r).1
    (record {
      from_left = omega (arith, ints, h.across);
      to_right = omega (arith, ints);
      from_top = omega (arith, ints, h.down);
      to_bottom = omega (arith, ints);
    })

one_within : (outer r : Rect) → HasPoints r → ((p : Point) → is_in p r ≡ true → is_in p outer ≡ true) → LiesWithin outer r
one_within outer r h inside =
    let a : IsIn (record { x = r.left; y = r.top }) outer = (is_in-IsIn (record { x = r.left; y = r.top }) outer).0
    (inside (record { x = r.left; y = r.top }) (first_point r h)) in
    let b : IsIn (record { x = r.right -ℤ pos 1; y = r.bottom -ℤ pos 1 }) outer = (is_in-IsIn (record { x = r.right -ℤ pos 1; y = r.bottom -ℤ pos 1 }) outer).0
    (inside (record { x = r.right -ℤ pos 1; y = r.bottom -ℤ pos 1 }) (last_point r h)) in
    record {
      left = a.from_left;
      across = omega (arith, ints, h.across);
      right = omega (arith, ints, b.to_right);
      top = a.from_top;
      down = omega (arith, ints, h.down);
      bottom = omega (arith, ints, b.to_bottom);
    }

each_within : (outer : Rect) (rects : List Rect) → All HasPoints rects → ((p : Point) → is_in_some p rects ≡ true → is_in p outer ≡ true) →
    All (LiesWithin outer) rects
each_within outer [] points inside = All-nil (LiesWithin outer)
each_within outer (r ∷ rects) points inside = All-cons (LiesWithin outer) r rects
    (one_within outer r (All-head HasPoints r rects points) (λ p h. inside p (or_left (is_in p r) (is_in_some p rects) h)))
    (each_within outer rects (All-tail HasPoints r rects points) (λ p h. inside p (or_right (is_in p r) (is_in_some p rects) h)))

pub all_within : (outer : Rect) (set : Point → Bool) (rects : List Rect) → All HasPoints rects → IsRegionOf (λ p. set p && is_in p outer) rects →
    All (LiesWithin outer) rects
all_within outer set rects points h = each_within outer rects points (λ p e. (and_parts (set p) (is_in p outer) (sym (h.points p) ∙ e)).1)
