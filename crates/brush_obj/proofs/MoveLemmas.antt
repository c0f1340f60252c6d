-- Calls on targets that are moved, and with sources that are lent.
use Rattle.std.proofs.Common.{◌≡◌, ℕ, ℤ, ◌+ℤ◌, ◌-ℤ◌, ◌∙◌, Bool, true, false, IsTrue, Option, None, Some, is_some, if◌then◌else◌, refl, sym, arith}
use Rattle.std.proofs.lemmas.Bool.{false≢true}
use Rattle.std.proofs.lemmas.Int.{ints}
use Rattle.geom_base.specs.declared.point.Point.{Point}
use Rattle.geom_base.specs.declared.rect.Rect.{Rect}
use Rattle.geom_base.specs.Points.{moved, moved_back, moved_rect}
use Rattle.pix_format.specs.Value.{bits_of}
use Rattle.rop_mix.specs.Needs as X
use Rattle.rop_mix.specs.Rop.{rop4_of}
use Rattle.brush_obj.specs.Calls.{CallsLend, CallsMove, IgnoresTarget, operand, point_across}
use Rattle.brush_obj.specs.Wrapping.{from_origin}
use Rattle.brush_obj.specs.declared.blt_call.BltCall.{BltCall}
use Rattle.brush_obj.specs.declared.draw_call.DrawCall.TheVariants.{Blt, Copy, Paint}

apart : (a b n : ℤ) → (a +ℤ n) -ℤ (b +ℤ n) ≡ a -ℤ b
apart a b n = omega (arith, ints)

across : (rect : Rect) (at p by : Point) → point_across (moved_rect rect by) at (moved p by) ≡ point_across rect at p
across rect at p by = rw (apart p.x rect.left by.x, apart p.y rect.top by.y) refl

counted : (origin p by : Point) → from_origin (moved origin by) (moved p by) ≡ from_origin origin p
counted origin p by = rw (apart p.x origin.x by.x, apart p.y origin.y by.y) refl

pub moves : CallsMove
unfolding X.mask_needed X.pattern_needed
moves (Blt c) o by p d = rw (across c.rect c.src p by, across c.rect c.mask p by, counted c.origin p by) refl
moves (Copy c) o by p d = rw (across c.rect c.src p by) refl
moves (Paint c) o by p d = rw (counted c.origin p by) refl

-- a source that begins at a point
lent_across : (rect : Rect) (src at p : Point) → point_across rect (moved_back at src) p ≡ moved_back at (point_across rect src p)
lent_across rect src at p = rw (minus (p.x -ℤ rect.left) src.x at.x, minus (p.y -ℤ rect.top) src.y at.y) refl
  where
    minus : (a b c : ℤ) → a +ℤ (b -ℤ c) ≡ (a +ℤ b) -ℤ c
    minus a b c = omega (arith, ints)

same_operand : (needed : Bool) (a b : Option ℕ) → (IsTrue needed → a ≡ b) → operand needed a ≡ operand needed b
same_operand true a b h = h refl
same_operand false a b h = refl

pub lends : CallsLend
unfolding X.mask_needed X.pattern_needed
lends (Blt c) at o lent p d h =
    let source : operand (X.source_needed c.rop.code) (lent.source (point_across c.rect (moved_back at c.src) p)) ≡
    operand (X.source_needed c.rop.code) (o.source (point_across c.rect c.src p)) =
    rw (lent_across c.rect c.src at p) (same_operand (X.source_needed c.rop.code) (lent.source (moved_back at (point_across c.rect c.src p))) (o.source (point_across c.rect c.src p)) h.source) in
    rw (source, h.mask, h.pattern, h.format) refl
lends (Copy c) at o lent p d h =
    let source : lent.source (point_across c.rect (moved_back at c.src) p) ≡ o.source (point_across c.rect c.src p) =
    rw (lent_across c.rect c.src at p) (h.source refl) in
    rw (source, h.format) refl
lends (Paint c) at o lent p d h = rw (h.pattern, h.format) refl

-- an operand that is found where it is needed has a value
found : (needed : Bool) (value : Option ℕ) → (IsTrue needed → IsTrue (is_some value)) → (v : ℕ) × (operand needed value ≡ Some v)
found true (Some v) h = (v, refl)
found true None h = absurd (false≢true (h refl))
found false value h = (0, refl)

-- a raster operation that needs neither mask nor old value
pub blt_ignores : (c : BltCall) (target mask : Bool) →
    (target ≡ false → (m : Bool) (p s d e bits : ℕ) → rop4_of c.rop.code m p s d bits ≡ rop4_of c.rop.code m p s e bits) →
    mask ≡ X.mask_needed c.rop.code → target ≡ false → mask ≡ false → IgnoresTarget (Blt c)
blt_ignores c target mask spared m no_target no_mask o p d e finds =
    let none : X.mask_needed c.rop.code ≡ false = sym m ∙ no_mask in
    let one = found (X.source_needed c.rop.code) (o.source (point_across c.rect c.src p)) finds in
    rw (one.1, none) (spared no_target false (if X.pattern_needed c.rop.code then o.pattern (from_origin c.origin p) else 0) one.0 d e (bits_of o.format))
