-- The order that a shift asks for.
use Rattle.std.proofs.Common.{◌≡◌, ◌≤ℤ◌, ◌<ℤ◌, Bool, true, false, cond, refl, arith, inl, inr, int_lt}
use Rattle.std.proofs.lemmas.Int.{ints}
use Rattle.geom_base.specs.declared.point.Point.{Point}
use Rattle.geom_base.specs.declared.rect.Rect.{Rect}
use Rattle.geom_base.specs.Points.{IsIn, is_in}
use Rattle.std.proofs.lemmas.Bool.{false_from_ne_true}
use Rattle.geom_base.specs.PointLaws.{is_in-IsIn}
use Rattle.geom_base.specs.Tests.{int_lt-true, int_lt-false}
use Rattle.brush_obj.specs.Calls.{point_across}
use Rattle.clip_obj.specs.declared.direction.Direction.TheVariants.{RightDown, LeftDown, RightUp, LeftUp}
use Rattle.clip_obj.specs.Order.{ComesBefore}
use Rattle.eng_calls.specs.Order.{ShiftsAreInOrder}

not_in : (q : Point) (r : Rect) → (IsIn q r → ⊥) → is_in q r ≡ false
not_in q r none = false_from_ne_true (is_in q r) (λ h. none ((is_in-IsIn q r).0 h))

-- the source lies to the right or below, or to the left or above
module _ (rect : Rect) (src : Point) (a b : Rect) (p : Point) (w : IsIn p b) (v : IsIn (point_across rect src p) a) where
  to_right : rect.left ≤ℤ src.x → a.right <ℤ b.left → ⊥
  to_right h k = omega (arith, ints, h, k, w.from_left, v.to_right)

  to_left : src.x <ℤ rect.left → b.right <ℤ a.left → ⊥
  to_left h k = omega (arith, ints, h, k, w.to_right, v.from_left)

  downwards : rect.top ≤ℤ src.y → a.bottom ≤ℤ b.top → ⊥
  downwards h k = omega (arith, ints, h, k, w.from_top, v.to_bottom)

  upwards : src.y <ℤ rect.top → b.bottom ≤ℤ a.top → ⊥
  upwards h k = omega (arith, ints, h, k, w.to_bottom, v.from_top)

  clash : (left up : Bool) → int_lt src.x rect.left ≡ left → int_lt src.y rect.top ≡ up →
      ComesBefore (cond up (cond left LeftUp RightUp) (cond left LeftDown RightDown)) a b → ⊥
  clash true true x y (inl h) = to_left (int_lt-true src.x rect.left x) h.1
  clash true true x y (inr h) = upwards (int_lt-true src.y rect.top y) h
  clash true false x y (inl h) = to_left (int_lt-true src.x rect.left x) h.1
  clash true false x y (inr h) = downwards (int_lt-false src.y rect.top y) h
  clash false true x y (inl h) = to_right (int_lt-false src.x rect.left x) h.1
  clash false true x y (inr h) = upwards (int_lt-true src.y rect.top y) h
  clash false false x y (inl h) = to_right (int_lt-false src.x rect.left x) h.1
  clash false false x y (inr h) = downwards (int_lt-false src.y rect.top y) h

pub shifts_are_in_order : ShiftsAreInOrder
shifts_are_in_order rect src a b before p here =
    not_in (point_across rect src p) a (λ v. clash rect src a b p ((is_in-IsIn p b).0 here) v (int_lt src.x rect.left) (int_lt src.y rect.top) refl refl before)
