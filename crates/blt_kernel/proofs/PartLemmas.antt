-- A drawing made of its parts.
use Rattle.std.proofs.Common.{◌≡◌, ℕ, pos, ◌*◌, ◌<◌, ◌≤◌, Bool, true, false, ◌||◌, ◌&&◌, ◌==◌, List, length, refl, sym}
use Rattle.std.proofs.Common.{ap, ◌∙◌, subst, arith, Option, Some, None, IfSome, unsigned_abs}
use Rattle.std.specs.Borrow.{Bor}
use Rattle.std.proofs.lemmas.Bool.Decides.{nat_tests}
use Rattle.std.proofs.lemmas.Int.{ints}
use Rattle.geom_base.specs.declared.point.Point.{Point}
use Rattle.geom_base.specs.declared.size.Size.{Size}
use Rattle.geom_base.specs.declared.rect.Rect.{Rect}
use Rattle.geom_base.specs.Points.{is_in, box_of, point_at}
use Rattle.pix_format.specs.declared.format.Format.{Format}
use Rattle.pix_format.specs.Value.{bits_of}
use Rattle.pix_format.specs.Xlate.{translated}
use Rattle.rop_mix.specs.Rop.{rop4_of}
use Rattle.surf_obj.specs.Lent.{size_of, format_of, values_of, OnlyPixels}
use Rattle.geom_base.specs.Grid.{value_at}
use Rattle.geom_base.specs.Step.{redrawn}
use Rattle.geom_base.specs.StepLaws.{length-redrawn, value_at-redrawn}
use Rattle.surf_obj.specs.declared.lent.LentSurf.{LentSurf}
use Rattle.surf_obj.specs.declared.view.LentView.{LentView}
use Rattle.surf_obj.specs.LentLaws.{OnlyPixels-size, OnlyPixels-format, length-values_of}
use Rattle.blt_kernel.specs.InnerShift.{place_shifted, Reaches, value_shifted}
use Rattle.blt_kernel.specs.InnerDrawing.{HasOperands, SourceFits, MaskFits, IsDrawn, drawn, source_or_zero, mask_or_zero, pattern_at, size_from, values_from}
use Rattle.blt_kernel.specs.InnerOrder.{KeepsSource, KeepsOwnSource}
use Rattle.blt_kernel.specs.declared.shift.Shift.{Shift}
use Rattle.blt_kernel.specs.declared.drawing.Drawing.{Drawing}
use Rattle.blt_kernel.specs.declared.mask.Mask.{Mask}
use Rattle.blt_kernel.specs.declared.source.SourcePixels.{SourcePixels}
use Rattle.blt_kernel.proofs.JoinLemmas.{joined}
use Rattle.blt_kernel.proofs.OrderLemmas.{NotBefore, ahead}
use Rattle.geom_base.specs.Tests.{pos-unsigned_abs}

-- what is there for a box is there for its parts
pub Reaches-part : (shift : Shift) (size : Size) (l t r b l' t' r' b' : ℕ) → Reaches shift size l t r b → l ≤ l' → t ≤ t' → r' ≤ r → b' ≤ b →
    Reaches shift size l' t' r' b'
Reaches-part shift size l t r b l' t' r' b' h hl ht hr hb = record {
  from_left = omega (arith, ints);
  to_right = omega (arith, ints);
  from_top = omega (arith, ints);
  to_bottom = omega (arith, ints);
}

source_part : (s : Option SourcePixels) (size : Size) (format : Format) (l t r b l' t' r' b' : ℕ) → IfSome s (SourceFits size format l t r b) → l ≤ l' →
    t ≤ t' → r' ≤ r → b' ≤ b → IfSome s (SourceFits size format l' t' r' b')
source_part None size format l t r b l' t' r' b' h hl ht hr hb = tt
source_part (Some s) size format l t r b l' t' r' b' h hl ht hr hb = record {
  there = Reaches-part s.shift
      (size_from s.lent size) l t r b l' t' r' b' h.there hl ht hr hb;
  translated = h.translated;
}

mask_part : (m : Option Mask) (l t r b l' t' r' b' : ℕ) → IfSome m (MaskFits l t r b) → l ≤ l' → t ≤ t' → r' ≤ r → b' ≤ b → IfSome m (MaskFits l' t' r' b')
mask_part None l t r b l' t' r' b' h hl ht hr hb = tt
mask_part (Some m) l t r b l' t' r' b' h hl ht hr hb = Reaches-part m.shift _ l t r b l' t' r' b' h hl ht hr hb

pub HasOperands-part : (d : Drawing) (size : Size) (format : Format) (l t r b l' t' r' b' : ℕ) → HasOperands d size format l t r b →
    l ≤ l' → t ≤ t' → r' ≤ r → b' ≤ b → HasOperands d size format l' t' r' b'
HasOperands-part d size format l t r b l' t' r' b' h hl ht hr hb = record {
  columns = omega (arith, h.columns);
  rows = omega (arith, h.rows);
  source = source_part d.source size format l t r b l' t' r' b' h.source hl ht hr hb;
  mask = mask_part d.mask l t r b l' t' r' b' h.mask hl ht hr hb;
  ink = h.ink;
}

-- the same of a surface in which only pixels changed
pub HasOperands-kept : (d : Drawing) (start now : LentSurf) (l t r b : ℕ) → OnlyPixels start now → HasOperands d (size_of start) (format_of start) l t r b →
    HasOperands d (size_of now) (format_of now) l t r b
HasOperands-kept d start now l t r b only can =
    subst (λ (f : Format). HasOperands d (size_of now) f l t r b) (sym (OnlyPixels-format start now only))
    (subst (λ (s : Size). HasOperands d s (format_of start) l t r b) (sym (OnlyPixels-size start now only)) can)

-- a source that was not drawn on yet has the values that it had
value_kept : (lent : Option (Bor LentView)) (shift : Shift) (forward : Bool) (size : Size) (old now : List ℕ) (done : Point → Bool) (new : Point → ℕ → Option ℕ)
    (l t r b x y : ℕ) → length old ≡ size.w * size.h →
    now ≡ redrawn size old done new → KeepsOwnSource lent shift forward → Reaches shift (size_from lent size) l t r b → l ≤ x → x < r → t ≤ y → y < b →
    ((sx sy : ℕ) → NotBefore forward x y sx sy → done (point_at sx sy) ≡ false) →
    value_shifted shift (size_from lent size) (values_from lent now) (point_at x y) ≡
    value_shifted shift (size_from lent size) (values_from lent old) (point_at x y)
value_kept (Some view) shift forward size old now done new l t r b x y long is order fits hl hr ht hb apart = refl
value_kept None shift forward size old now done new l t r b x y long is order fits hl hr ht hb apart =
    let sx = unsigned_abs (place_shifted shift.rect.left shift.at.x (pos x)) in
    let sy = unsigned_abs (place_shifted shift.rect.top shift.at.y (pos y)) in
    let ex : pos sx ≡ place_shifted shift.rect.left shift.at.x (pos x) = pos-unsigned_abs _ (omega (arith, ints)) in
    let ey : pos sy ≡ place_shifted shift.rect.top shift.at.y (pos y) = pos-unsigned_abs _ (omega (arith, ints)) in
    let hx : sx < size.w = omega (arith, ints, ex) in
    let hy : sy < size.h = omega (arith, ints, ey) in
    ap (λ (vs : List ℕ). value_at size vs sx sy) is ∙ value_at-redrawn size old done new sx sy long hx hy
    ∙ rw (apart sx sy (ahead shift forward x y sx sy order ex ey)) refl

source_kept : (s : Option SourcePixels) (forward : Bool) (size : Size) (format : Format) (old now : List ℕ) (done : Point → Bool) (new : Point → ℕ → Option ℕ)
    (l t r b x y : ℕ) → length old ≡ size.w * size.h →
    now ≡ redrawn size old done new → KeepsSource s forward → IfSome s (SourceFits size format l t r b) → l ≤ x → x < r → t ≤ y → y < b →
    ((sx sy : ℕ) → NotBefore forward x y sx sy → done (point_at sx sy) ≡ false) →
    source_or_zero s size now (point_at x y) ≡ source_or_zero s size old (point_at x y)
source_kept None forward size format old now done new l t r b x y long is order fits hl hr ht hb apart = refl
source_kept (Some s) forward size format old now done new l t r b x y long is order fits hl hr ht hb apart =
    ap (translated s.xlate.now) (value_kept s.lent s.shift forward size old now done new l t r b x y long is order fits.there hl hr ht hb apart)

-- the columns and rows of a point of a box
pub in_box : (l t r b x y : ℕ) → is_in (point_at x y) (box_of l t r b) ≡ true → (l ≤ x) × (x < r) × (t ≤ y) × (y < b)
in_box l t r b x y h = (grind (arith, nat_tests), grind (arith, nat_tests), grind (arith, nat_tests), grind (arith, nat_tests))

lists_more : (d : Drawing) (forward : Bool) (size size' : Size) (format format' : Format) (old now next : List ℕ) (done both : Rect) (l t r b : ℕ) →
    size' ≡ size → format' ≡ format → length old ≡ size.w * size.h →
    now ≡ redrawn size old (λ p. is_in p done) (drawn d size format old) →
    next ≡ redrawn size' now (λ p. is_in p (box_of l t r b)) (drawn d size' format' now) →
    HasOperands d size format l t r b → KeepsSource d.source forward →
    ((x y : ℕ) → (is_in (point_at x y) both ≡ (is_in (point_at x y) done || is_in (point_at x y) (box_of l t r b)))
    × ((is_in (point_at x y) done && is_in (point_at x y) (box_of l t r b)) ≡ false)) →
    ((x y sx sy : ℕ) → is_in (point_at x y) (box_of l t r b) ≡ true → NotBefore forward x y sx sy → is_in (point_at sx sy) done ≡ false) →
    next ≡ redrawn size old (λ p. is_in p both) (drawn d size format old)
lists_more d forward size size' format format' old now next done both l t r b es ef long first second can order parts apart =
    joined size old now next (λ p. is_in p done) (λ p. is_in p (box_of l t r b)) (λ p. is_in p both) (drawn d size format old) (drawn d size format now) long
    (ap length first ∙ length-redrawn size old (λ p. is_in p done) (drawn d size format old) ∙ long) first (rw (es, ef) at second)
    (λ x y hx hy. parts x y)
    (λ x y hx hy inside was. let w = in_box l t r b x y inside in
    ap (λ (s : ℕ). Some (rop4_of d.rop.code (mask_or_zero d.mask (point_at x y) == 1) (pattern_at d (point_at x y)) s was (bits_of format)))
    (source_kept d.source forward size format old now (λ p. is_in p done) (drawn d size format old) l t r b x y long first order can.source w.0 w.1 w.2 w.3
    (λ sx sy. apart x y sx sy inside)))

-- one part more of a drawing
pub drawn_more : (d : Drawing) (forward : Bool) (start now next : LentSurf) (done both : Rect) (l t r b : ℕ) → OnlyPixels start now →
    values_of now ≡ redrawn (size_of start) (values_of start) (λ p. is_in p done) (drawn d (size_of start) (format_of start) (values_of start)) →
    IsDrawn d l t r b now next → HasOperands d (size_of start) (format_of start) l t r b → KeepsSource d.source forward →
    ((x y : ℕ) → (is_in (point_at x y) both ≡ (is_in (point_at x y) done || is_in (point_at x y) (box_of l t r b)))
    × ((is_in (point_at x y) done && is_in (point_at x y) (box_of l t r b)) ≡ false)) →
    ((x y sx sy : ℕ) → is_in (point_at x y) (box_of l t r b) ≡ true → NotBefore forward x y sx sy → is_in (point_at sx sy) done ≡ false) →
    values_of next ≡ redrawn (size_of start) (values_of start) (λ p. is_in p both) (drawn d (size_of start) (format_of start) (values_of start))
drawn_more d forward start now next done both l t r b only first second can order parts apart =
    lists_more d forward (size_of start) (size_of now) (format_of start) (format_of now) (values_of start) (values_of now) (values_of next) done both l t r b
    (OnlyPixels-size start now only) (OnlyPixels-format start now only) (length-values_of start) first second.values can order parts apart
