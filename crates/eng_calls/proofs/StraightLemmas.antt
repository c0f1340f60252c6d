-- Sources that are copied as they are.
use Rattle.std.proofs.Common.{◌≡◌, ◌∙◌, ℕ, ◌<◌, ◌^◌, IsTrue, cond, List, Option, Some, None, option_map, get_or, refl, ap, sym, subst, arith}
use Rattle.std.specs.Borrow.{Bor}
use Rattle.std.specs.List.{All}
use Rattle.std.specs.Option.{option_copied}
use Rattle.std.proofs.lemmas.Bool.{false≢true}
use Rattle.std.proofs.lemmas.Int.{ints}
use Rattle.geom_base.specs.declared.point.Point.{Point}
use Rattle.geom_base.specs.declared.port_answer.PortAnswer.{PortAnswer}
use Rattle.geom_base.specs.declared.rect.Rect.{Rect}
use Rattle.geom_base.specs.declared.size.Size.{Size}
use Rattle.geom_base.specs.declared.target.Target.{Target}
use Rattle.geom_base.specs.Drawn.{Drawn}
use Rattle.geom_base.specs.Grid.{value_of_point}
use Rattle.geom_base.specs.PointLaws.{is_in-IsIn}
use Rattle.geom_base.specs.Points.{HasPoints, IsIn, corner_of, is_in_some, moved_back, moved_rect, sides_of, whole}
use Rattle.geom_base.specs.Step.{Change}
use Rattle.pix_format.specs.declared.format.Format.{Format}
use Rattle.pix_format.specs.Value.{bits_of}
use Rattle.pix_format.specs.Xlate.{Translation, translated}
use Rattle.pix_format.specs.XlateLaws.{kept_values}
use Rattle.surf_obj.specs.RectLaws.{redrawn_agree, sides_of-whole}
use Rattle.surf_obj.specs.Rects.{as_in_at}
use Rattle.surf_obj.specs.View.{view_format, view_size, view_values}
use Rattle.surf_obj.specs.declared.view.LentView.{LentView}
use Rattle.brush_obj.specs.Calls.{Operands, new_of_call, reads_source, rect_of, source_point, src_of}
use Rattle.brush_obj.specs.declared.draw_call.DrawCall.{DrawCall}
use Rattle.brush_obj.specs.declared.draw_call.DrawCall.TheVariants.{Blt, Copy, Paint}
use Rattle.clip_obj.specs.Clip.{LiesWithin}
use Rattle.clip_obj.specs.ClipLaws.{clip_in, lies_within}
use Rattle.copy_port.specs.Given as given
use Rattle.copy_port.specs.Laws.{draws_as}
use Rattle.copy_port.specs.Port.{Draws}
use Rattle.copy_port.specs.State.{PortState}
use Rattle.eng_calls.specs.InnerCopies.{IsStraightSource, source_place}
use Rattle.eng_calls.specs.Inputs.{IsGiven, given_of}
use Rattle.eng_calls.specs.declared.inputs.Inputs.{Inputs}
use Rattle.eng_calls.proofs.TransferLemmas.{same_side}

-- a call that reads its source is handed a translation from it
reads_translated : (call : DrawCall) (g : given.Given) (held : Option given.Picture) (format : Format) → given.Suits call g held format →
    IsTrue (reads_source call) → given.Translates g held format
reads_translated (Blt c) g held format h reads = h.0
reads_translated (Copy c) g held format h reads = h.0
reads_translated (Paint c) g held format h reads = absurd (false≢true reads)

-- what a translation between surfaces of one format and table leaves as it is
record Straight (o : Option (Bor Translation)) (view : Bor LentView) (format : Format) : Type 0 where
  same : view_format view.now ≡ format
  values : (source : Point → Option ℕ) (q : Point) → given.translated_by (option_copied o) source q ≡ source q

straight_by : (o : Option (Bor Translation)) (view : Bor LentView) (format : Format) →
    IsGiven o (λ x. (x.now.from ≡ x.now.to) × (x.now.from_table ≡ x.now.to_table)) →
    given.IsThereAnd (option_copied o) (λ x. given.LeadsFrom (Some (given.picture_of_view view)) x × (x.to ≡ format)) → Straight o view format
straight_by None view format same leads = elim same [ ]
straight_by (Some x) view format same leads = record { same = sym leads.0 ∙ same.0 ∙ leads.1; values = λ source q. kept (source q) }
  where
    kept : (o : Option ℕ) → option_map (translated x.now) o ≡ o
    kept None = refl
    kept (Some v) = ap (λ (n : ℕ). Some n) (kept_values x.now v same)

module _ (call : DrawCall) (i : Inputs) (r : Rect) (view : Bor LentView) (held : Option given.Picture) (format : Format) (s : IsStraightSource call i r view) where
  lent : (given_of i).source ≡ Some (given.picture_of_view view)
  lent = ap (option_map given.picture_of_view) s.source

  straight : given.Suits call (given_of i) held format → Straight i.xlate view format
  straight suits =
      straight_by i.xlate view format s.xlate
      (subst (λ (o : Option given.Picture). given.IsThereAnd (option_copied i.xlate) (λ x. given.LeadsFrom (given.first_of o held) x × (x.to ≡ format))) lent
      (reads_translated call (given_of i) held format suits s.reads))

  -- the bits of the source are of the target's format
  pub straight_format : given.Suits call (given_of i) held format → view_format view.now ≡ format
  straight_format suits = (straight suits).same

  -- a point of the rectangle gets what the source has at its place there
  pub straight_value : given.Suits call (given_of i) held format →
      ((p : Point) → IsIn p (whole (view_size view.now)) → value_of_point (view_size view.now) (view_values view.now) p < 2 ^ bits_of (view_format view.now)) →
      (p : Point) (d : ℕ) → IsIn p r →
      as_in_at (corner_of (source_place call (view_size view.now))) (view_size view.now) (view_values view.now) p d ≡
      new_of_call call (given.operands_given (given_of i) held format) p d
  straight_value suits fits p d inside =
      ap (λ (z : Point). Some (value_of_point size values z)) (λ k. record { x = across k; y = down k })
      ∙ sym (s.gives operands p d v found (rw (← (straight suits).same) (fits q (s.all p inside))))
    where
      size : Size
      size = view_size view.now

      values : List ℕ
      values = view_values view.now

      q : Point
      q = source_point call p

      v : ℕ
      v = value_of_point size values q

      operands : Operands
      operands = given.operands_given (given_of i) held format

      across : (moved_back (corner_of (source_place call size)) p).x ≡ q.x
      across = omega (arith, ints)

      down : (moved_back (corner_of (source_place call size)) p).y ≡ q.y
      down = omega (arith, ints)

      found : operands.source q ≡ Some v
      found =
          (straight suits).values (given.points_of (given.first_of (given_of i).source held)) q
          ∙ ap (λ (o : Option given.Picture). given.points_of (given.first_of o held) q) lent
          ∙ ap (λ b. cond b (Some v) None) ((is_in-IsIn q (whole size)).1 (s.all p inside))

-- rectangles within that one lie where the source does
in_place : (call : DrawCall) (size : Size) (p : Point) → IsIn (source_point call p) (whole size) → IsIn p (source_place call size)
in_place call size p h = record {
  from_left = omega (arith, ints, h.from_left);
  to_right = omega (arith, ints, h.to_right);
  from_top = omega (arith, ints, h.from_top);
  to_bottom = omega (arith, ints, h.to_bottom);
}

pub straight_within : (call : DrawCall) (i : Inputs) (frame : Rect) (view : Bor LentView) (rects : List Rect) → IsStraightSource call i frame view →
    All (LiesWithin frame) rects → All HasPoints rects → All (LiesWithin (source_place call (view_size view.now))) rects
straight_within call i frame view rects s within points = λ k d lt.
    let w = within k d lt in
    lies_within (get_or rects k d) (source_place call (view_size view.now))
    (λ p h. in_place call (view_size view.now) p (s.all p (record {
      from_left = omega (arith, ints, h.from_left, w.left);
      to_right = omega (arith, ints, h.to_right, w.right);
      from_top = omega (arith, ints, h.from_top, w.top);
      to_bottom = omega (arith, ints, h.to_bottom, w.bottom);
    }))) (points k d lt)

pub source_sides : (call : DrawCall) (size : Size) → size ≡ sides_of (source_place call size)
source_sides call size = sym (moved_sides (whole size) (moved_back (src_of call) (corner_of (rect_of call))) ∙ sides_of-whole size)
  where
    moved_sides : (r : Rect) (by : Point) → sides_of (moved_rect r by) ≡ sides_of r
    moved_sides r by = rw (same_side r.left r.right by.x, same_side r.top r.bottom by.y) refl

-- what was written off the source
pub drawn_straight : (call : DrawCall) (i : Inputs) (frame : Rect) (view : Bor LentView) (held : Option given.Picture) (format : Format) (t : Target)
    (clip : List Rect) (most : ℕ) (before after : PortState) (d e : Drawn) (answer : PortAnswer) → IsStraightSource call i frame view →
    given.Suits call (given_of i) held format →
    ((p : Point) → IsIn p (whole (view_size view.now)) → value_of_point (view_size view.now) (view_values view.now) p < 2 ^ bits_of (view_format view.now)) →
    All (LiesWithin frame) clip →
    Draws t (as_in_at (corner_of (source_place call (view_size view.now))) (view_size view.now) (view_values view.now)) (λ p. is_in_some p clip) most
    before after d e answer →
    Draws t (new_of_call call (given.operands_given (given_of i) held format)) (λ p. is_in_some p clip) most before after d e answer
drawn_straight call i frame view held format t clip most before after d e answer s suits fits within h =
    draws_as t f new (λ p. is_in_some p clip) (λ p. is_in_some p clip) most before after d e answer (λ p. refl)
    (λ u area is inside. ap (λ (vs : List ℕ). record u { values = vs }) (redrawn_agree u.size u.values area f new (λ p x a.
    straight_value call i frame view held format s suits fits p x ((is_in-IsIn p frame).0 (clip_in frame clip p within (inside p a)))))) h
  where
    f : Change
    f = as_in_at (corner_of (source_place call (view_size view.now))) (view_size view.now) (view_values view.now)

    new : Change
    new = new_of_call call (given.operands_given (given_of i) held format)
