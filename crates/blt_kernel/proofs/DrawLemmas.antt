-- The values that drawings give.
use Rattle.std.proofs.Common.{◌≡◌, ℕ, ◌+◌, ◌*◌, ◌/◌, ◌^◌, ◌<◌, ◌==◌, List, All, length, get_or, refl, sym, subst, ap, ◌∙◌, arith, true, Option, None, Some}
use Rattle.std.specs.Int.{bit_at}
use Rattle.geom_base.specs.declared.point.Point.{Point}
use Rattle.geom_base.specs.declared.size.Size.{Size}
use Rattle.pix_format.specs.declared.format.Format.{Format}
use Rattle.std.proofs.lemmas.List.Elements.{All-from_get_or, All-get_or}
use Rattle.std.proofs.lemmas.Nat.Bits.{bit_at-lt}
use borrow.Author.Tests.{eqb-true}
use Rattle.blt_kernel.specs.InnerFills.{FillsWith, takes_pattern_alone}
use Rattle.pix_format.specs.Value.{bits_of}
use Rattle.rop_mix.specs.Rop.{rop_bit, rop3_of, rop4_of}
use Rattle.rop_mix.specs.BitLaws.{rop3_of-lt, number_with_bits-same}
use Rattle.rop_mix.specs.BitLaws.{checked_below}
use Rattle.surf_obj.specs.Lent.{size_of, format_of, values_of}
use Rattle.geom_base.specs.Points.{point_at}
use Rattle.geom_base.specs.Grid.{value_at}
use Rattle.surf_obj.specs.declared.lent.LentSurf.{LentSurf}
use Rattle.blt_kernel.specs.InnerDrawing.{GivesRun, drawn_value, pattern_at, source_or_zero, mask_or_zero}
use Rattle.brush_obj.specs.Ink.{ink_at}
use Rattle.blt_kernel.specs.declared.drawing.Drawing.{Drawing}
use Rattle.blt_kernel.specs.declared.mask.Mask.{Mask}
use Rattle.brush_obj.specs.declared.ink.Ink.TheVariants.{Solid}
use Rattle.surf_obj.specs.Runs.{box_of, solid}
use Rattle.geom_base.specs.Step.{redrawn}
use Rattle.geom_base.specs.StepLaws.{redrawn_rule}
use Rattle.surf_obj.specs.LentLaws.{length-values_of}
use Rattle.geom_base.specs.Points.{is_in}
use Rattle.brush_obj.specs.CallLaws.{copied_value}
use Rattle.brush_obj.specs.Wrapping.{from_origin}
use Rattle.blt_kernel.specs.declared.source.SourcePixels.{SourcePixels}
use Rattle.blt_kernel.specs.InnerDrawing.{drawn, source_at}
use Rattle.brush_obj.specs.declared.ink.Ink.{Ink}

-- the new values of a run fit
pub gives : (d : Drawing) (dst : LentSurf) (x y : ℕ) (values : List ℕ) →
    ((k : ℕ) → k < length values → get_or values k 0 ≡
    drawn_value d (size_of dst) (format_of dst) (values_of dst) (point_at (x + k) y) (value_at (size_of dst) (values_of dst) (x + k) y)) →
    GivesRun d dst x y values
gives d dst x y values same = record {
  values = same;
  fits = All-from_get_or (λ v. v < 2 ^ bits_of (format_of dst)) values 0
      (λ k h. subst (λ v. v < 2 ^ bits_of (format_of dst)) (sym (same k h)) (rop3_of-lt _ _ _ _ (bits_of (format_of dst))));
}

-- without a mask the second code acts
pub drawn_value-unmasked : (d : Drawing) (size : Size) (format : Format) (values : List ℕ) (p : Point) (old : ℕ) → d.mask ≡ None →
    drawn_value d size format values p old ≡ rop3_of (d.rop.code / 256) (pattern_at d p) (source_or_zero d.source size values p) old (bits_of format)
drawn_value-unmasked d size format values p old none =
    ap (λ (m : Option Mask). rop4_of d.rop.code (mask_or_zero m p == 1) (pattern_at d p) (source_or_zero d.source size values p) old (bits_of format)) none

-- a run by one code
pub row_gives : (d : Drawing) (dst : LentSurf) (x y : ℕ) (run : List ℕ) (code bits : ℕ) (p s old : ℕ → ℕ) → d.mask ≡ None → code ≡ d.rop.code / 256 →
    bits ≡ bits_of (format_of dst) →
    ((k : ℕ) → k < length run → get_or run k 0 ≡ rop3_of code (p k) (s k) (old k) bits) →
    ((k : ℕ) → k < length run → p k ≡ pattern_at d (point_at (x + k) y)) →
    ((k : ℕ) → k < length run → s k ≡ source_or_zero d.source (size_of dst) (values_of dst) (point_at (x + k) y)) →
    ((k : ℕ) → k < length run → old k ≡ value_at (size_of dst) (values_of dst) (x + k) y) → GivesRun d dst x y run
row_gives d dst x y run code bits p s old none ec eb row pattern source was =
    gives d dst x y run (λ k h. row k h
    ∙ same code bits (p k) (s k) (old k) _ _ _ _ _ ec eb (pattern k h) (source k h) (was k h)
    ∙ sym (drawn_value-unmasked d (size_of dst) (format_of dst) (values_of dst) (point_at (x + k) y) (value_at (size_of dst) (values_of dst) (x + k) y) none))
  where
    same : (code bits p s old code' bits' p' s' old' : ℕ) → code ≡ code' → bits ≡ bits' → p ≡ p' → s ≡ s' → old ≡ old' →
        rop3_of code p s old bits ≡ rop3_of code' p' s' old' bits'
    same code bits p s old code' bits' p' s' old' ec eb ep es eo = rw (ec, eb, ep, es, eo) refl

-- a code that takes the pattern alone gives what it gives with source 0 and old value 0
pattern_bit : (code p s d : ℕ) → takes_pattern_alone code ≡ true → p < 2 → s < 2 → d < 2 → rop_bit code p s d ≡ bit_at code (4 * p)
pattern_bit code p s d alone hp hs hd =
    let place : 4 * p + 2 * s + d < 8 = omega arith in
    let row : (4 * p + 2 * s + d) / 4 ≡ p = omega arith in
    let checked = checked_below 8 (λ k. bit_at code k == bit_at code (4 * (k / 4))) alone (4 * p + 2 * s + d) place in
    eqb-true _ _ checked ∙ ap (λ (k : ℕ). bit_at code (4 * k)) row

pub pattern_alone : (code p s d bits : ℕ) → takes_pattern_alone code ≡ true → rop3_of code p s d bits ≡ rop3_of code p 0 0 bits
pattern_alone code p s d bits alone =
    number_with_bits-same bits (λ i. rop_bit code (bit_at p i) (bit_at s i) (bit_at d i)) (λ i. rop_bit code (bit_at p i) (bit_at 0 i) (bit_at 0 i))
    (λ i. pattern_bit code (bit_at p i) (bit_at s i) (bit_at d i) alone (bit_at-lt _ _) (bit_at-lt _ _) (bit_at-lt _ _)
    ∙ sym (pattern_bit code (bit_at p i) (bit_at 0 i) (bit_at 0 i) alone (bit_at-lt _ _) (bit_at-lt _ _) (bit_at-lt _ _)))

-- such a code fills with one value
pub fills : (d : Drawing) (format : Format) (pattern value : ℕ) → d.mask ≡ None → d.ink ≡ Solid pattern → takes_pattern_alone (d.rop.code / 256) ≡ true →
    value ≡ rop3_of (d.rop.code / 256) pattern 0 0 (bits_of format) → FillsWith d format value
fills d format pattern value none ink alone is = record {
  each = λ size values p old.
      drawn_value-unmasked d size format values p old none
      ∙ ap (λ (i : Ink). rop3_of (d.rop.code / 256) (ink_at i (from_origin d.origin p)) (source_or_zero d.source size values p) old (bits_of format)) ink
      ∙ pattern_alone (d.rop.code / 256) pattern (source_or_zero d.source size values p) old (bits_of format) alone ∙ sym is;
  fits = rw is (rop3_of-lt (d.rop.code / 256) pattern 0 0 (bits_of format));
}

-- a run of the source alone
pub copy_gives : (d : Drawing) (dst : LentSurf) (x y : ℕ) (s : SourcePixels) (run : List ℕ) → d.mask ≡ None → d.rop.code / 256 ≡ 0xCC → d.source ≡ Some s →
    ((k : ℕ) → k < length run → get_or run k 0 ≡ source_at s (size_of dst) (values_of dst) (point_at (x + k) y)) →
    All (λ v. v < 2 ^ bits_of (format_of dst)) run → GivesRun d dst x y run
copy_gives d dst x y s run none code is same fit =
    let bits = bits_of (format_of dst) in
    gives d dst x y run (λ k h.
    sym (drawn_value-unmasked d (size_of dst) (format_of dst) (values_of dst) (point_at (x + k) y) (value_at (size_of dst) (values_of dst) (x + k) y) none
    ∙ ap (λ (o : Option SourcePixels). rop3_of (d.rop.code / 256) (pattern_at d (point_at (x + k) y))
    (source_or_zero o (size_of dst) (values_of dst) (point_at (x + k) y)) (value_at (size_of dst) (values_of dst) (x + k) y) bits) is
    ∙ ap (λ (v : ℕ). rop3_of (d.rop.code / 256) (pattern_at d (point_at (x + k) y)) v (value_at (size_of dst) (values_of dst) (x + k) y) bits) (sym (same k h))
    ∙ ap (λ (n : ℕ). rop3_of n (pattern_at d (point_at (x + k) y)) (get_or run k 0) (value_at (size_of dst) (values_of dst) (x + k) y) bits) code
    ∙ copied_value _ (get_or run k 0) _ bits (All-get_or (λ v. v < 2 ^ bits) run k 0 h fit)))

-- a run of one value
pub fill_gives : (d : Drawing) (dst : LentSurf) (left right y n value : ℕ) → left + n ≡ right → FillsWith d (format_of dst) value →
    redrawn (size_of dst) (values_of dst) (λ p. is_in p (box_of left y (left + n) (y + 1))) (solid value)
    ≡ redrawn (size_of dst) (values_of dst) (λ p. is_in p (box_of left y right (y + 1))) (drawn d (size_of dst) (format_of dst) (values_of dst))
fill_gives d dst left right y n value end is =
    ap (λ (r : ℕ). redrawn (size_of dst) (values_of dst) (λ p. is_in p (box_of left y r (y + 1))) (solid value)) end
    ∙ redrawn_rule (size_of dst) (values_of dst) (λ p. is_in p (box_of left y right (y + 1))) (solid value)
    (drawn d (size_of dst) (format_of dst) (values_of dst)) (length-values_of dst)
    (λ x' y' hx hy inside. sym (is.each (size_of dst) (values_of dst) (point_at x' y') (value_at (size_of dst) (values_of dst) x' y')))
