-- A call on the copy of a frame of its target, taken over to the target.
use Rattle.std.proofs.Common.{◌≡◌, ◌∙◌, ℕ, ℤ, pos, ◌+ℤ◌, ◌-ℤ◌, ◌||◌, IsTrue, List, [], ◌∷◌, map, int_le, int_lt, Option, Some, None, option_map, refl, ap, sym, arith, ◌⊎◌, inl, inr, unwrap_or}
use Rattle.std.proofs.lemmas.Int.{ints}
use Rattle.geom_base.specs.declared.point.Point.{Point}
use Rattle.geom_base.specs.declared.rect.Rect.{Rect}
use Rattle.geom_base.specs.declared.size.Size.{Size}
use Rattle.geom_base.specs.PointLaws.{is_in-IsIn}
use Rattle.geom_base.specs.Points.{IsIn, corner_of, is_in, is_in_some, moved, moved_back, moved_rect, sides_of}
use Rattle.geom_base.specs.Step.{Area, Change, redrawn, value_after}
use Rattle.pix_format.specs.declared.format.Format.{Format}
use Rattle.surf_obj.specs.Object.{object_format, object_size, object_values}
use Rattle.surf_obj.specs.RectLaws.{length-rect_values, redrawn_agree, redrawn_any, redrawn_through}
use Rattle.surf_obj.specs.Rects.{as_in_at, rect_values}
use Rattle.surf_obj.specs.Surface.{Surface}
use Rattle.surf_obj.specs.declared.object.SurfObj.{SurfObj}
use Rattle.brush_obj.specs.Calls.{CallsLend, CallsMove, IgnoresTarget, held_of, lent_call, moved_call, new_of_call, shown, source_point, target_of}
use Rattle.brush_obj.specs.declared.draw_call.DrawCall.{DrawCall}
use Rattle.clip_obj.specs.Clip.{to_origin}
use Rattle.clip_obj.specs.ClipLaws.{clip_in}
use Rattle.copy_port.specs.Given.{CanDraw, Picture, asked_of, first_of, held_in, operands_given, picture_of_view, points_of}
use Rattle.copy_port.specs.State.{Shown, surface_of}
use Rattle.eng_calls.specs.Copies.{HeldFor, begins_at}
use Rattle.eng_calls.specs.InnerCopies.{FindsSources, Frames, IsDrawnCopy, IsLentAs, StandsIn}
use Rattle.eng_calls.specs.Inputs.{drawn_with, given_of}
use Rattle.eng_calls.specs.declared.copies.PartCopy.{PartCopy}
use Rattle.eng_calls.specs.declared.inputs.Inputs.{Inputs}
use Rattle.eng_calls.proofs.LentLemmas.{has_translation, same_but_source, stands_for, translated_found}

-- a point of a clip, seen from a corner, is one of the clip seen from it

seen_le : (a x c : ℤ) → int_le (a +ℤ (pos 0 -ℤ c)) (x -ℤ c) ≡ int_le a x
seen_le a x c = grind (arith, ints)

seen_lt : (a x c : ℤ) → int_lt (x -ℤ c) (a +ℤ (pos 0 -ℤ c)) ≡ int_lt x a
seen_lt a x c = grind (arith, ints)

seen_one : (corner p : Point) (r : Rect) → is_in (moved_back corner p) (moved_rect r (to_origin corner)) ≡ is_in p r
seen_one corner p r = rw (seen_le r.left p.x corner.x, seen_lt r.right p.x corner.x, seen_le r.top p.y corner.y, seen_lt r.bottom p.y corner.y) refl

seen_some : (corner p : Point) (rects : List Rect) →
    is_in_some (moved_back corner p) (map (λ r. moved_rect r (to_origin corner)) rects) ≡ is_in_some p rects
seen_some corner p [] = refl
seen_some corner p (r ∷ rects) = rw (seen_one corner p r) (ap (λ b. is_in p r || b) (seen_some corner p rects))

seen_point : (corner p : Point) → moved_back corner p ≡ moved p (to_origin corner)
seen_point corner p = ap (λ x. record { x = x; y = p.y -ℤ corner.y }) (minus p.x corner.x) ∙ ap (λ y. record { x = p.x +ℤ (pos 0 -ℤ corner.x); y = y }) (minus p.y corner.y)
  where
    minus : (a b : ℤ) → a -ℤ b ≡ a +ℤ (pos 0 -ℤ b)
    minus a b = omega (arith, ints)

-- the call on the copy, and what it was asked for
pub record OnCopy (call : DrawCall) (i : Inputs) (targets : Shown) (frame : Rect) (clip : List Rect) (part : Option PartCopy) (before after : SurfObj) : Type 0 where
  pub can : CanDraw call (given_of i) targets clip
  pub framed : Frames frame clip
  pub held : HeldFor (held_of call) call targets frame part
  pub copy : StandsIn call (first_of (given_of i).source (held_in (held_of call) targets)) (surface_of targets (target_of call)) frame before
  pub lent : Inputs
  pub lent_as : IsLentAs part i lent
  pub size : object_size after ≡ object_size before
  pub format : object_format after ≡ object_format before
  pub values : object_values after ≡ redrawn (object_size before) (object_values before) (λ p. is_in_some p (map (λ r. moved_rect r (to_origin (corner_of frame))) clip))
      (new_of_call (moved_call (lent_call call (begins_at part)) (to_origin (corner_of frame)))
      (drawn_with lent None (shown (object_size before) (object_values before)) (object_format before)))

pub drawn_on_copy : (call : DrawCall) (i : Inputs) (targets : Shown) (frame : Rect) (clip : List Rect) (part : Option PartCopy) (before after : SurfObj) →
    CallsMove → CallsLend → OnCopy call i targets frame clip part before after →
    IsDrawnCopy (surface_of targets (target_of call)) frame clip (asked_of call (given_of i) targets clip).new after
drawn_on_copy call i targets frame clip part before after moves lends h = record {
  size = h.size ∙ h.copy.size;
  format = h.format ∙ h.copy.format;
  step = λ area inside.
      ap (λ (vs : List ℕ). redrawn s.size s.values area (as_in_at (corner_of frame) (sides_of frame) vs))
      (h.values ∙ ap (λ (size : Size). redrawn size (object_values before) on_copy new_on_copy) h.copy.size)
      ∙ over_values area inside h.copy.values
      ∙ (redrawn_through frame s.size s.values (rect_values frame s.size s.values) area on_copy (asked_of call (given_of i) targets clip).new new_on_copy refl
      (λ p t. clip_in frame clip p h.framed.within (inside p t))
      (λ p t. rw (seen_some (corner_of frame) p clip) (inside p t))
      (λ p d t. same p d ((is_in-IsIn p frame).0 (clip_in frame clip p h.framed.within (inside p t)))));
}
  where
    s : Surface
    s = surface_of targets (target_of call)

    by : Point
    by = to_origin (corner_of frame)

    on_copy : Area
    on_copy p = is_in_some p (map (λ r. moved_rect r by) clip)

    own : Point → Option ℕ
    own = shown (object_size before) (object_values before)

    new_on_copy : Change
    new_on_copy = new_of_call (moved_call (lent_call call (begins_at part)) by) (drawn_with h.lent None own (object_format before))

    same : (p : Point) (d : ℕ) → IsIn p frame → new_on_copy (moved_back (corner_of frame) p) d ≡ (asked_of call (given_of i) targets clip).new p d
    same p d here =
        ap (λ q. new_on_copy q d) (seen_point (corner_of frame) p)
        ∙ moves (lent_call call (begins_at part)) (drawn_with h.lent None own (object_format before)) by p d
        ∙ ap (λ (f : Format). new_of_call (lent_call call (begins_at part)) (drawn_with h.lent None own f) p d) h.copy.format
        ∙ (lends call (begins_at part) _ (drawn_with h.lent None own s.format) p d
        (same_but_source call i h.lent (held_of call) targets (begins_at part) own s.format p h.lent_as.mask h.lent_as.xlate h.lent_as.table h.lent_as.brush
        (λ reads. stands_for (held_of call) call (option_map picture_of_view h.lent.source) (given_of i).source targets frame part h.can.held h.held
        h.lent_as.source reads p here)))

    source : Option Picture
    source = first_of (given_of i).source (held_in (held_of call) targets)

    kept : (p : Point) → IsIn p frame → IgnoresTarget call × FindsSources call source frame → (d e : ℕ) →
        value_after new_on_copy (moved_back (corner_of frame) p) d ≡ value_after new_on_copy (moved_back (corner_of frame) p) e
    kept p here k d e =
        ap (λ (o : Option ℕ). unwrap_or o d) (same p d here)
        ∙ k.0 (operands_given (given_of i) (held_in (held_of call) targets) s.format) p d e
        (λ reads. translated_found (given_of i).xlate (points_of source) (source_point call p)
        (has_translation call (given_of i) (held_in (held_of call) targets) s.format reads h.can.suits) (k.1 reads p here))
        ∙ sym (ap (λ (o : Option ℕ). unwrap_or o e) (same p e here))

    over_values : (area : Area) → ((p : Point) → IsTrue (area p) → IsTrue (is_in_some p clip)) →
        ((object_values before ≡ rect_values frame s.size s.values) ⊎ (IgnoresTarget call × FindsSources call source frame)) →
        redrawn s.size s.values area (as_in_at (corner_of frame) (sides_of frame) (redrawn (sides_of frame) (object_values before) on_copy new_on_copy)) ≡
        redrawn s.size s.values area
        (as_in_at (corner_of frame) (sides_of frame) (redrawn (sides_of frame) (rect_values frame s.size s.values) on_copy new_on_copy))
    over_values area inside (inl is) = ap (λ (vs : List ℕ). redrawn s.size s.values area (as_in_at (corner_of frame) (sides_of frame) (redrawn (sides_of frame) vs on_copy new_on_copy))) is
    over_values area inside (inr ignores) = redrawn_agree s.size s.values area
        (as_in_at (corner_of frame) (sides_of frame) (redrawn (sides_of frame) (object_values before) on_copy new_on_copy))
        (as_in_at (corner_of frame) (sides_of frame) (redrawn (sides_of frame) (rect_values frame s.size s.values) on_copy new_on_copy))
        (λ p d t. let here = (is_in-IsIn p frame).0 (clip_in frame clip p h.framed.within (inside p t)) in
        ap (λ (n : ℕ). Some n) (redrawn_any frame (object_values before) (rect_values frame s.size s.values) on_copy new_on_copy p h.copy.count
        (length-rect_values frame s.size s.values) here (rw (seen_some (corner_of frame) p clip) (inside p t)) (kept p here ignores)))
