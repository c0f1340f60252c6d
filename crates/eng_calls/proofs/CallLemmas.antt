-- Calls in the rectangles of a clip.
use Rattle.std.proofs.Common.{◌≡◌, ◌∙◌, ℕ, List, Bool, true, false, cond, refl, ap, subst, Option, Some, None, option_map}
use Rattle.std.specs.Borrow.{Bor}
use Rattle.std.specs.List.{AllPairs}
use Rattle.geom_base.specs.declared.point.Point.{Point}
use Rattle.geom_base.specs.declared.rect.Rect.{Rect}
use Rattle.geom_base.specs.declared.size.Size.{Size}
use Rattle.geom_base.specs.declared.target.Target.{Target}
use Rattle.geom_base.specs.Points.{is_in, is_in_some, AreApart, whole}
use Rattle.pix_format.specs.declared.format.Format.{Format}
use Rattle.pix_format.specs.Value.{bits_of}
use Rattle.pix_format.specs.Xlate.{Translation, translated}
use Rattle.rop_mix.specs.Needs.{source_needed, pattern_needed, mask_needed}
use Rattle.geom_base.specs.Step.{Change, redrawn}
use Rattle.geom_base.specs.Grid.{value_of_point}
use Rattle.surf_obj.specs.declared.view.LentView.{LentView}
use Rattle.brush_obj.specs.Calls.{combined, operand, point_across, shown}
use Rattle.brush_obj.specs.Wrapping.{from_origin}
use Rattle.brush_obj.specs.declared.blt_call.BltCall.{BltCall}
use Rattle.blt_kernel.specs.Handed.{mask_of, source_of}
use Rattle.clip_obj.specs.declared.direction.Direction.{Direction}
use Rattle.clip_obj.specs.Order.{ordered, ComesBefore}
use Rattle.clip_obj.specs.OrderLaws.{pairs_weaker, before_is_apart, ordered_rearranges}
use Rattle.eng_calls.specs.InnerGives.{blt_rule}
use Rattle.eng_calls.specs.Steps.{Rule, step_by_step, IsUnaffected}
use Rattle.eng_calls.specs.Order.{SparesSource, direction_of}
use Rattle.eng_calls.proofs.HeartLemmas.{steps_are_one, redrawn_alike, same_area, value_kept}
use Rattle.eng_calls.proofs.ShiftLemmas.{shifts_are_in_order}

-- a clip in an order, by a rule that keeps in that order what later rectangles get
pub whole_step : (size : Size) (rule : Rule) (d : Direction) (rects : List Rect) (values : List ℕ) → AllPairs (ComesBefore d) (ordered d rects) →
    ((a b : Rect) → ComesBefore d a b → IsUnaffected size rule a b) →
    step_by_step size rule (ordered d rects) values ≡ redrawn size values (λ p. is_in_some p rects) (rule values)
whole_step size rule d rects values order keeps =
    steps_are_one size rule (ordered d rects) values (pairs_weaker (ComesBefore d) AreApart (ordered d rects) (before_is_apart d) order)
    (pairs_weaker (ComesBefore d) (IsUnaffected size rule) (ordered d rects) keeps order)
    ∙ redrawn_alike size values (λ p. is_in_some p (ordered d rects)) (λ p. is_in_some p rects) (rule values) (rule values)
    (same_area rects (ordered d rects) (ordered_rearranges d rects)) (λ p v. refl)

-- a point that was not drawn shows what it showed
shown_kept : (size : Size) (values : List ℕ) (a : Rect) (new : Change) (q : Point) → is_in q a ≡ false →
    shown size (redrawn size values (λ r. is_in r a) new) q ≡ shown size values q
shown_kept size values a new q outside = kept (is_in q (whole size)) refl
  where
    kept : (b : Bool) → is_in q (whole size) ≡ b →
        cond b (Some (value_of_point size (redrawn size values (λ r. is_in r a) new) q)) None ≡ cond b (Some (value_of_point size values q)) None
    kept true e = ap (λ (v : ℕ). Some v) (value_kept size values (λ r. is_in r a) new q e outside)
    kept false e = refl

-- so does a source
source_kept : (src : Option (Bor LentView)) (held : Option Target) (size : Size) (values : List ℕ) (a : Rect) (new : Change) (q : Point) → is_in q a ≡ false →
    source_of src held (shown size (redrawn size values (λ r. is_in r a) new)) q ≡ source_of src held (shown size values) q
source_kept (Some view) held size values a new q outside = refl
source_kept None (Some target) size values a new q outside = shown_kept size values a new q outside
source_kept None None size values a new q outside = refl

-- a raster operation in the order that its shift asks for
pub shift_keeps : (call : BltCall) (src mask : Option (Bor LentView)) (xlate : Translation) (pattern : Point → ℕ) (size : Size) (format : Format)
    (d : Direction) → d ≡ direction_of call.rect call.src → (a b : Rect) → ComesBefore d a b →
    IsUnaffected size (blt_rule call src mask xlate pattern size format) a b
shift_keeps call src mask xlate pattern size format d e a b before values new p v here =
    let spares : SparesSource call.rect call.src a b = shifts_are_in_order call.rect call.src a b (subst (λ (t : Direction). ComesBefore t a b) e before) in
    ap (λ (s : Option ℕ). combined call.rop.code (bits_of format) (operand (source_needed call.rop.code) (option_map (translated xlate) s))
    (operand (mask_needed call.rop.code) (mask_of mask (point_across call.rect call.mask p)))
    (cond (pattern_needed call.rop.code) (pattern (from_origin call.origin p)) 0) v)
    (source_kept src call.held size values a new (point_across call.rect call.src p) (spares p here))
