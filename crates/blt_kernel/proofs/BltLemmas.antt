-- What a raster operation gives, as its call says it.
use Rattle.std.proofs.Common.{◌≡◌, ℕ, List, Bool, true, false, cond, ◌&&◌, ◌==◌, ◌^◌, ◌<◌, refl, sym, ap, ◌∙◌, IsTrue}
use Rattle.std.proofs.Common.{Option, Some, None, IfSome, option_map, unwrap_or, rules}
use Rattle.std.specs.Borrow.{Bor}
use Rattle.geom_base.specs.declared.point.Point.{Point}
use Rattle.geom_base.specs.declared.size.Size.{Size}
use Rattle.geom_base.specs.declared.target.Target.{Target}
use Rattle.geom_base.specs.Points.{point_at}
use Rattle.pix_format.specs.declared.format.Format.{Format}
use Rattle.pix_format.specs.Value.{bits_of}
use Rattle.pix_format.specs.Xlate.{Translation, translated}
use Rattle.rop_mix.specs.Needs.{source_needed, pattern_needed, mask_needed}
use Rattle.rop_mix.specs.Rop.{rop4_of}
use Rattle.geom_base.specs.Step.{Change, value_after, redrawn}
use Rattle.surf_obj.specs.Lent.{size_of, values_of}
use Rattle.geom_base.specs.Grid.{value_at}
use Rattle.surf_obj.specs.declared.lent.LentSurf.{LentSurf}
use Rattle.surf_obj.specs.declared.view.LentView.{LentView}
use Rattle.geom_base.specs.StepLaws.{redrawn_grid, redrawn_none}
use Rattle.surf_obj.specs.LentLaws.{length-values_of}
use Rattle.brush_obj.specs.Calls.{Operands, new_of_blt, combined, operand, point_across, shown, as_kept, blt_operands}
use Rattle.brush_obj.specs.Wrapping.{from_origin}
use Rattle.brush_obj.specs.declared.blt_call.BltCall.{BltCall}
use Rattle.blt_kernel.specs.InnerDrawing.{source_or_zero, mask_or_zero, IsTranslated}
use Rattle.brush_obj.specs.Ink.{ink_at, InkFits}
use Rattle.blt_kernel.specs.Handed.{TranslatesFrom, mask_of, source_of}
use Rattle.blt_kernel.specs.InnerHanded.{shift_from, drawing_given, ink_given, mask_given, source_given}
use Rattle.blt_kernel.specs.InnerReadable.{source_is_readable, mask_is_readable, drawn_readable}
use Rattle.blt_kernel.specs.declared.shift.Shift.{Shift}
use Rattle.brush_obj.specs.declared.ink.Ink.{Ink}

-- a value for a test, or none
abbrev pub if_there : Bool → ℕ → Option ℕ
if_there b v = cond b (Some v) None

mapped : (f : ℕ → ℕ) (b : Bool) (v : ℕ) → option_map f (if_there b v) ≡ if_there b (f v)
mapped f true v = refl
mapped f false v = refl

-- the source as an operand
source_operand : (needed : Bool) (lent : Option (Bor LentView)) (held : Option Target) (size : Size) (values : List ℕ) (shift : Shift) (xlate : Bor Translation)
    (p : Point) → (needed ≡ true → held ≡ None → lent ≡ None → ⊥) →
    operand needed (as_kept xlate.now (source_of lent held (shown size values)) (point_across shift.rect shift.at p))
    ≡ if_there (source_is_readable (source_given needed lent shift xlate) size p) (source_or_zero (source_given needed lent shift xlate) size values p)
source_operand false lent held size values shift xlate p some = refl
source_operand true (Some view) held size values shift xlate p some = mapped (translated xlate.now) _ _
source_operand true None (Some target) size values shift xlate p some = mapped (translated xlate.now) _ _
source_operand true None None size values shift xlate p some = absurd (some refl refl refl)

-- the mask as an operand
mask_operand : (needed : Bool) (lent : Option (Bor LentView)) (shift : Shift) (p : Point) → (needed ≡ true → lent ≡ None → ⊥) →
    operand needed (mask_of lent (point_across shift.rect shift.at p)) ≡
    if_there (mask_is_readable (mask_given needed lent shift) p) (mask_or_zero (mask_given needed lent shift) p)
mask_operand false lent shift p some = refl
mask_operand true (Some view) shift p some = refl
mask_operand true None shift p some = absurd (some refl refl)

-- the pattern as an operand
ink_operand : (needed : Bool) (ink : Ink) (format : Format) (q : Point) → ink_at (ink_given needed ink) q ≡ cond needed (ink_at ink q) 0
ink_operand true ink format q = refl
ink_operand false ink format q = refl

-- all together
all_there : (code bits : ℕ) (ts tm : Bool) (s m pattern was : ℕ) →
    cond (ts && tm) (Some (rop4_of code (m == 1) pattern s was bits)) None ≡ combined code bits (if_there ts s) (if_there tm m) pattern was
all_there code bits true true s m pattern was = refl
all_there code bits true false s m pattern was = refl
all_there code bits false true s m pattern was = refl
all_there code bits false false s m pattern was = refl

-- a source and a mask that are there where they are needed give what the call says
pub blt_gives : (call : BltCall) (src mask : Option (Bor LentView)) (xlate : Bor Translation) (ink : Ink) (size : Size) (format : Format) (values : List ℕ)
    (p : Point) (was : ℕ) →
    (source_needed call.rop.code ≡ true → call.held ≡ None → src ≡ None → ⊥) → (mask_needed call.rop.code ≡ true → mask ≡ None → ⊥) →
    drawn_readable (drawing_given call src mask xlate ink) size format values p was
    ≡ new_of_blt call (blt_operands (source_of src call.held (shown size values)) (mask_of mask) xlate.now (ink_at ink) format) p was
blt_gives call src mask xlate ink size format values p was some masked =
    let s = source_given (source_needed call.rop.code) src (shift_from call.rect call.src) xlate in
    let m = mask_given (mask_needed call.rop.code) mask (shift_from call.rect call.mask) in
    all_there call.rop.code (bits_of format) (source_is_readable s size p) (mask_is_readable m p) (source_or_zero s size values p) (mask_or_zero m p) _ was
    ∙ rw (
      source_operand (source_needed call.rop.code) src call.held size values (shift_from call.rect call.src) xlate p some,
      mask_operand (mask_needed call.rop.code) mask (shift_from call.rect call.mask) p masked,
      ink_operand (pattern_needed call.rop.code) ink format (from_origin call.origin p),
    ) refl

-- without a source or a mask that is needed nothing is drawn
pub no_source : (call : BltCall) (o : Operands) (p : Point) (was : ℕ) → source_needed call.rop.code ≡ true →
    o.source (point_across call.rect call.src p) ≡ None → new_of_blt call o p was ≡ None
no_source call o p was needed none = rw (needed, none) refl

combined_none : (code bits : ℕ) (s : Option ℕ) (pattern was : ℕ) → combined code bits s None pattern was ≡ None
combined_none code bits (Some s) pattern was = refl
combined_none code bits None pattern was = refl

pub no_mask : (call : BltCall) (o : Operands) (p : Point) (was : ℕ) → mask_needed call.rop.code ≡ true → o.mask (point_across call.rect call.mask p) ≡ None →
    new_of_blt call o p was ≡ None
no_mask call o p was needed none = rw (needed, none) (combined_none call.rop.code _ _ _ was)

-- a rule that gives nothing anywhere
pub untouched_redrawn : (dst : LentSurf) (area : Point → Bool) (rule : Change) → ((p : Point) (was : ℕ) → rule p was ≡ None) →
    values_of dst ≡ redrawn (size_of dst) (values_of dst) area rule
untouched_redrawn dst area rule none =
    sym (redrawn_none (size_of dst) (values_of dst) (λ p. false) rule (length-values_of dst) (λ x y hx hy. refl))
    ∙ redrawn_grid (size_of dst) (values_of dst) (λ p. false) area rule rule (length-values_of dst) (λ x y hx hy.
    same (area (point_at x y)) (value_after rule (point_at x y) (value_at (size_of dst) (values_of dst) x y)) (value_at (size_of dst) (values_of dst) x y)
    (ap (λ (v : Option ℕ). unwrap_or v (value_at (size_of dst) (values_of dst) x y)) (none (point_at x y) (value_at (size_of dst) (values_of dst) x y))))
  where
    same : (b : Bool) (v d : ℕ) → v ≡ d → d ≡ cond b v d
    same true v d e = sym e
    same false v d e = refl

-- a source that is drawn is translated
pub source_translated : (needed : Bool) (lent : Option (Bor LentView)) (held : Option Target) (format : Format) (shift : Shift) (xlate : Bor Translation) →
    TranslatesFrom lent held format xlate.now → xlate.now.to ≡ format → (needed ≡ true → held ≡ None → lent ≡ None → ⊥) →
    IfSome (source_given needed lent shift xlate) (IsTranslated format)
source_translated false lent held format shift xlate from to some = tt
source_translated true (Some view) held format shift xlate from to some = record { from = from; to = to }
source_translated true None (Some target) format shift xlate from to some = record { from = from; to = to }
source_translated true None None format shift xlate from to some = absurd (some refl refl refl)

-- an ink that is drawn fits
pub ink_fits : (needed : Bool) (ink : Ink) (format : Format) → (IsTrue needed → InkFits ink format) → InkFits (ink_given needed ink) format
ink_fits true ink format fits = fits refl
ink_fits false ink format fits = zero_fits (bits_of format)
  where
    zero_fits : (n : ℕ) → 0 < 2 ^ n
    zero_fits n = search rules
