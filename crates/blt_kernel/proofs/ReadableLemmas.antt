-- The part of a drawing for which source and mask are there.
use Rattle.std.proofs.Common.{◌≡◌, ℕ, ◌<◌, ◌≤◌, ◌↔◌, ◌&&◌, Bool, true, false, cond, IsTrue, refl, sym, ap, ◌∙◌, arith, Option, Some, None, IfSome}
use Rattle.std.proofs.lemmas.Int.{ints}
use Rattle.std.proofs.lemmas.Bool.{false_from_ne_true}
use Rattle.geom_base.specs.declared.size.Size.{Size}
use Rattle.geom_base.specs.Points.{is_in, IsIn, box_of, point_at, whole}
use Rattle.geom_base.specs.PointLaws.{is_in-IsIn}
use Rattle.pix_format.specs.declared.format.Format.{Format}
use Rattle.surf_obj.specs.Lent.{size_of, format_of, values_of}
use Rattle.geom_base.specs.Grid.{value_at}
use Rattle.geom_base.specs.Step.{value_after, redrawn}
use Rattle.surf_obj.specs.declared.lent.LentSurf.{LentSurf}
use Rattle.geom_base.specs.StepLaws.{redrawn_grid, redrawn_none}
use Rattle.surf_obj.specs.LentLaws.{length-values_of}
use Rattle.brush_obj.specs.Calls.{point_across}
use Rattle.blt_kernel.specs.InnerBoxes.{box_from, ArePart, HasPoint, LieIn, SourceReaches, MaskReaches}
use Rattle.blt_kernel.specs.InnerDrawing.{HasOperands, SourceFits, MaskFits, IsTranslated, size_from, drawn}
use Rattle.brush_obj.specs.Ink.{InkFits}
use Rattle.blt_kernel.specs.InnerReadable.{is_readable, source_is_readable, mask_is_readable, drawn_readable}
use Rattle.blt_kernel.specs.declared.shift.Shift.{Shift}
use Rattle.blt_kernel.specs.declared.drawing.Drawing.{Drawing}
use Rattle.blt_kernel.specs.declared.edges.Edges.{Edges}
use Rattle.blt_kernel.specs.declared.mask.Mask.{Mask}
use Rattle.blt_kernel.specs.declared.source.SourcePixels.{SourcePixels}
use Rattle.blt_kernel.proofs.PartLemmas.{Reaches-part}
use Rattle.blt_kernel.proofs.SpanLemmas.{IsThere}

same_tests : (a b : Bool) → (IsTrue a → IsTrue b) → (IsTrue b → IsTrue a) → a ≡ b
same_tests true true f g = refl
same_tests true false f g = sym (f refl)
same_tests false true f g = g refl
same_tests false false f g = refl

both_tests : (a b : Bool) → IsTrue a → IsTrue b → IsTrue (a && b)
both_tests true b h k = k
both_tests false b h k = h

first_test : (a b : Bool) → IsTrue (a && b) → IsTrue a
first_test true b h = refl
first_test false b h = h

second_test : (a b : Bool) → IsTrue (a && b) → IsTrue b
second_test true b h = h
second_test false b h = absurd (cc)

-- a box of the columns and rows to which some of a surface belong
pub cut_points : (shift : Shift) (size : Size) (l t r b l' t' r' b' : ℕ) → ((x : ℕ) → ((l' ≤ x) × (x < r')) ↔ IsThere l r size.w shift.rect.left shift.at.x x) →
    ((y : ℕ) → ((t' ≤ y) × (y < b')) ↔ IsThere t b size.h shift.rect.top shift.at.y y) →
    (x y : ℕ) → is_in (point_at x y) (box_of l' t' r' b') ≡ (is_in (point_at x y) (box_of l t r b) && is_readable shift size (point_at x y))
cut_points shift size l t r b l' t' r' b' columns rows x y =
    let inner = is_in-IsIn (point_at x y) (box_of l' t' r' b') in
    let outer = is_in-IsIn (point_at x y) (box_of l t r b) in
    let there = is_in-IsIn (point_across shift.rect shift.at (point_at x y)) (whole size) in
    let inside = is_in (point_at x y) (box_of l t r b) in
    let seen = is_readable shift size (point_at x y) in
    same_tests (is_in (point_at x y) (box_of l' t' r' b')) (inside && seen)
    (λ h. let w : IsIn (point_at x y) (box_of l' t' r' b') = inner.0 h in
    let c = (columns x).0 (omega (arith, ints, w.from_left), omega (arith, ints, w.to_right)) in
    let d = (rows y).0 (omega (arith, ints, w.from_top), omega (arith, ints, w.to_bottom)) in
    both_tests inside seen
    (outer.1 (record {
      from_left = omega (arith, ints, c.0);
      to_right = omega (arith, ints, c.1);
      from_top = omega (arith, ints, d.0);
      to_bottom = omega (arith, ints, d.1);
    }))
    (there.1 (record { from_left = c.2; to_right = c.3; from_top = d.2; to_bottom = d.3 })))
    (λ h. let w : IsIn (point_at x y) (box_of l t r b) = outer.0 (first_test inside seen h) in
    let v : IsIn (point_across shift.rect shift.at (point_at x y)) (whole size) = there.0 (second_test inside seen h) in
    let c = (columns x).1 (omega (arith, ints, w.from_left), omega (arith, ints, w.to_right), v.from_left, v.to_right) in
    let d = (rows y).1 (omega (arith, ints, w.from_top), omega (arith, ints, w.to_bottom), v.from_top, v.to_bottom) in
    inner.1 (record {
      from_left = omega (arith, ints, c.0);
      to_right = omega (arith, ints, c.1);
      from_top = omega (arith, ints, d.0);
      to_bottom = omega (arith, ints, d.1);
    }))

-- a part with a point lies in a box with one
HasPoint-part : (outer inner : Edges) → ArePart outer inner → HasPoint inner → HasPoint outer
HasPoint-part outer inner part some = (omega (arith, part.left, part.right, some.0), omega (arith, part.top, part.bottom, some.1))

source_can : (s : Option SourcePixels) (size : Size) (format : Format) (outer inner : Edges) → IfSome s (SourceReaches size outer) → ArePart outer inner →
    IfSome s (IsTranslated format) → IfSome s (SourceFits size format inner.left inner.top inner.right inner.bottom)
source_can None size format outer inner reaches part translated = tt
source_can (Some s) size format outer inner reaches part translated = record {
  there = Reaches-part s.shift (size_from s.lent size) outer.left outer.top outer.right outer.bottom inner.left inner.top inner.right inner.bottom reaches
      part.left part.top part.right part.bottom;
  translated = translated;
}

mask_can : (m : Option Mask) (e : Edges) → IfSome m (MaskReaches e) → IfSome m (MaskFits e.left e.top e.right e.bottom)
mask_can None e reaches = tt
mask_can (Some m) e reaches = reaches

-- what is there for a box can be drawn in it
pub can_draw : (d : Drawing) (size : Size) (format : Format) (edges readable there : Edges) → LieIn size edges → ArePart edges readable →
    ArePart readable there → HasPoint there →
    (HasPoint readable → IfSome d.source (SourceReaches size readable)) → (HasPoint there → IfSome d.mask (MaskReaches there)) →
    IfSome d.source (IsTranslated format) → InkFits d.ink format →
    HasOperands d size format there.left there.top there.right there.bottom
can_draw d size format edges readable there lie first second some source mask translated ink = record {
  columns = omega (arith, lie.right, first.right, second.right);
  rows = omega (arith, lie.bottom, first.bottom, second.bottom);
  source = source_can d.source size format readable there (source (HasPoint-part readable there second some)) second translated;
  mask = mask_can d.mask there (mask some);
  ink = ink;
}

-- a box redrawn as far as it is there
three : (inside inner s m : Bool) (v d : ℕ) → inner ≡ ((inside && s) && m) → cond inner v d ≡ cond inside (cond (s && m) v d) d
three true inner true true v d e = rw e refl
three true inner true false v d e = rw e refl
three true inner false m v d e = rw e refl
three false inner s m v d e = rw e refl

there_after : (d : Drawing) (dst : LentSurf) (x y : ℕ) (b : Bool) →
    b ≡ (source_is_readable d.source (size_of dst) (point_at x y) && mask_is_readable d.mask (point_at x y)) →
    value_after (drawn_readable d (size_of dst) (format_of dst) (values_of dst)) (point_at x y) (value_at (size_of dst) (values_of dst) x y)
    ≡ cond b (value_after (drawn d (size_of dst) (format_of dst) (values_of dst)) (point_at x y) (value_at (size_of dst) (values_of dst) x y))
    (value_at (size_of dst) (values_of dst) x y)
there_after d dst x y true e = rw (← e) refl
there_after d dst x y false e = rw (← e) refl

pub there_redrawn : (d : Drawing) (dst : LentSurf) (edges readable there : Edges) →
    ((x y : ℕ) → is_in (point_at x y) (box_from readable) ≡
    (is_in (point_at x y) (box_from edges) && source_is_readable d.source (size_of dst) (point_at x y))) →
    ((x y : ℕ) → is_in (point_at x y) (box_from there) ≡ (is_in (point_at x y) (box_from readable) && mask_is_readable d.mask (point_at x y))) →
    redrawn (size_of dst) (values_of dst) (λ p. is_in p (box_from there)) (drawn d (size_of dst) (format_of dst) (values_of dst))
    ≡ redrawn (size_of dst) (values_of dst) (λ p. is_in p (box_from edges)) (drawn_readable d (size_of dst) (format_of dst) (values_of dst))
there_redrawn d dst edges readable there first second =
    redrawn_grid (size_of dst) (values_of dst) (λ p. is_in p (box_from there)) (λ p. is_in p (box_from edges))
    (drawn d (size_of dst) (format_of dst) (values_of dst)) (drawn_readable d (size_of dst) (format_of dst) (values_of dst)) (length-values_of dst)
    (λ x y hx hy.
    let s = source_is_readable d.source (size_of dst) (point_at x y) in
    let m = mask_is_readable d.mask (point_at x y) in
    let was = value_at (size_of dst) (values_of dst) x y in
    three (is_in (point_at x y) (box_from edges)) (is_in (point_at x y) (box_from there)) s m
    (value_after (drawn d (size_of dst) (format_of dst) (values_of dst)) (point_at x y) was) was
    (second x y ∙ ap (λ (b : Bool). b && m) (first x y))
    ∙ ap (λ (v : ℕ). cond (is_in (point_at x y) (box_from edges)) v was) (sym (there_after d dst x y (s && m) refl)))

no_point : (e : Edges) → (HasPoint e → ⊥) → (x y : ℕ) → is_in (point_at x y) (box_from e) ≡ false
no_point e none x y = false_from_ne_true (is_in (point_at x y) (box_from e))
    (λ h. let w = is_in-IsIn (point_at x y) (box_from e) in let v : IsIn (point_at x y) (box_from e) = w.0 h in
    none (omega (arith, ints, v.from_left, v.to_right), omega (arith, ints, v.from_top, v.to_bottom)))

-- nothing is drawn in a box without a point
pub none_redrawn : (d : Drawing) (dst : LentSurf) (there : Edges) → (HasPoint there → ⊥) →
    values_of dst ≡ redrawn (size_of dst) (values_of dst) (λ p. is_in p (box_from there)) (drawn d (size_of dst) (format_of dst) (values_of dst))
none_redrawn d dst there none = sym
    (redrawn_none (size_of dst) (values_of dst) (λ p. is_in p (box_from there)) (drawn d (size_of dst) (format_of dst) (values_of dst)) (length-values_of dst)
    (λ x y hx hy. no_point there none x y))
