-- What suits a call on a target suits the call with a source that is lent, on a copy of a part of it.
use Rattle.std.proofs.Common.{◌≡◌, ◌∙◌, ℤ, pos, ◌+ℤ◌, ◌-ℤ◌, ◌≤ℤ◌, IsTrue, List, Option, Some, None, is_some, option_map, length, map, get_or, refl, ap, sym, subst, arith}
use Rattle.std.proofs.Common.{FitsSigned}
use Rattle.std.proofs.lemmas.Bool.{false≢true}
use Rattle.std.specs.Borrow.{Bor}
use Rattle.std.specs.Int.{w32}
use Rattle.std.specs.List.{All}
use Rattle.std.specs.Option.{option_copied}
use Rattle.std.proofs.lemmas.List.Elements.{All-map}
use Rattle.std.proofs.lemmas.Int.{ints}
use Rattle.geom_base.specs.declared.point.Point.{Point}
use Rattle.geom_base.specs.declared.rect.Rect.{Rect}
use Rattle.geom_base.specs.declared.target.Target.{Target}
use Rattle.geom_base.specs.Points.{LiesIn, corner_of, moved_rect, sides_of, RectMoves}
use Rattle.pix_format.specs.declared.format.Format.{Format}
use Rattle.pix_format.specs.declared.rgb.Rgb.{Rgb}
use Rattle.pix_format.specs.Value.{colours_of}
use Rattle.pix_format.specs.Xlate.{Translation}
use Rattle.surf_obj.specs.Surface.{Surface}
use Rattle.surf_obj.specs.declared.view.LentView.{LentView}
use Rattle.brush_obj.specs.Calls.{CallMoves, PointMoves, held_of, lent_call, moved_call}
use Rattle.brush_obj.specs.Slots.{Brush}
use Rattle.brush_obj.specs.declared.draw_call.DrawCall.{DrawCall}
use Rattle.brush_obj.specs.declared.draw_call.DrawCall.TheVariants.{Blt, Copy, Paint}
use Rattle.blt_kernel.specs.Handed.{TranslatesFrom}
use Rattle.clip_obj.specs.Clip.{LiesWithin, to_origin}
use Rattle.copy_port.specs.Given as given
use Rattle.copy_port.specs.State.{IsLive, Shown, surface_of}
use Rattle.eng_calls.specs.Copies.{HeldFor, IsHeldPart, LiesOnTarget, picture_of_copy}
use Rattle.eng_calls.specs.InnerCopies.{IsLentAs}
use Rattle.eng_calls.specs.Inputs.{HasBrush, IsGiven, Suits, Translates, given_of}
use Rattle.eng_calls.specs.declared.copies.PartCopy.{PartCopy}
use Rattle.eng_calls.specs.declared.inputs.Inputs.{Inputs}

-- a translation that leads from the source leads from what stands for it

live_format : (t : Target) (targets : Shown) (xlate : Translation) (o : Option Surface) → targets t ≡ o → IsTrue (is_some (targets t)) →
    given.LeadsFrom (option_map given.picture_of (targets t)) xlate → xlate.from ≡ (surface_of targets t).format
live_format t targets xlate None e live leads = absurd (false≢true (sym (ap is_some e) ∙ live))
live_format t targets xlate (Some s) e live leads =
    let there : xlate.from ≡ s.format = rw e at leads in
    rw e there

leads_from_part : (t : Target) (call : DrawCall) (targets : Shown) (frame : Rect) (part : Option PartCopy) (xlate : Translation) → IsLive targets t →
    IsHeldPart t call targets frame part → given.LeadsFrom (given.held_in (Some t) targets) xlate → given.LeadsFrom (option_map picture_of_copy part) xlate
leads_from_part t call targets frame None xlate live h leads = tt
leads_from_part t call targets frame (Some copy) xlate live h leads = live_format t targets xlate (targets t) refl live leads ∙ sym h.format

leads_from_lent : (held : Option Target) (call : DrawCall) (lent source : Option given.Picture) (targets : Shown) (frame : Rect) (part : Option PartCopy)
    (xlate : Translation) → given.HoldsLive held source targets → HeldFor held call targets frame part →
    lent ≡ given.first_of (option_map picture_of_copy part) source → given.LeadsFrom (given.first_of source (given.held_in held targets)) xlate →
    given.LeadsFrom lent xlate
leads_from_lent None call lent source targets frame part xlate live h e leads = rw (e, h) (one source leads)
  where
    one : (s : Option given.Picture) → given.LeadsFrom (given.first_of s None) xlate → given.LeadsFrom s xlate
    one (Some s) l = l
    one None l = tt
leads_from_lent (Some t) call lent source targets frame part xlate live h e leads =
    rw (e, live.1) (first (option_map picture_of_copy part) (leads_from_part t call targets frame part xlate live.0 h (rw live.1 at leads)))
  where
    first : (s : Option given.Picture) → given.LeadsFrom s xlate → given.LeadsFrom (given.first_of s None) xlate
    first (Some s) l = l
    first None l = tt

translates_lent : (s : Option (Bor LentView)) (format : Format) (xlate : Translation) → given.LeadsFrom (option_map given.picture_of_view s) xlate →
    TranslatesFrom s None format xlate
translates_lent (Some view) format xlate h = h
translates_lent None format xlate h = tt

given_translates : (x : Option (Bor Translation)) (s : Option (Bor LentView)) (format : Format) (P : Translation → Type 0) →
    ((xlate : Translation) → P xlate → given.LeadsFrom (option_map given.picture_of_view s) xlate) →
    given.IsThereAnd (option_copied x) (λ xlate. P xlate × (xlate.to ≡ format)) →
    IsGiven x (λ xlate. TranslatesFrom s None format xlate.now × (xlate.now.to ≡ format))
given_translates (Some xlate) s format P leads h = (translates_lent s format xlate.now (leads xlate.now h.0), h.1)
given_translates None s format P leads h = absurd h

given_brush : (b : Option (Bor Brush)) (table : List Rgb) (format : Format) → length table ≡ colours_of format →
    IsTrue (is_some (option_map (λ (b : Bor Brush). b.now.face) b)) → IsGiven b (λ b. length table ≡ colours_of format)
given_brush (Some brush) table format e h = e
given_brush None table format e h = absurd (false≢true h)

-- what stands for a source, and the inputs that it is among
pub record Lends (call : DrawCall) (i lent : Inputs) (targets : Shown) (frame : Rect) (part : Option PartCopy) (format : Format) : Type 0 where
  pub lent_as : IsLentAs part i lent
  pub live : given.HoldsLive (held_of call) (given_of i).source targets
  pub held : HeldFor (held_of call) call targets frame part
  pub colours : length i.table.now ≡ colours_of format

lent_translates : (call : DrawCall) (i lent : Inputs) (targets : Shown) (frame : Rect) (part : Option PartCopy) (format : Format) →
    Lends call i lent targets frame part format → given.Translates (given_of i) (given.held_in (held_of call) targets) format → Translates lent None format
lent_translates call i lent targets frame part format l h = rw l.lent_as.xlate (given_translates i.xlate lent.source format
    (λ xlate. given.LeadsFrom (given.first_of (given_of i).source (given.held_in (held_of call) targets)) xlate)
    (λ xlate leads. leads_from_lent (held_of call) call (option_map given.picture_of_view lent.source) (given_of i).source targets frame part xlate l.live l.held l.lent_as.source leads)
    h)

lent_brush : (call : DrawCall) (i lent : Inputs) (targets : Shown) (frame : Rect) (part : Option PartCopy) (format : Format) →
    Lends call i lent targets frame part format → IsTrue (is_some (given_of i).brush) → HasBrush lent format
lent_brush call i lent targets frame part format l h = rw (l.lent_as.brush, l.lent_as.table) (given_brush i.brush i.table.now format l.colours h)

pub lent_suits : (call : DrawCall) (i lent : Inputs) (targets : Shown) (frame : Rect) (part : Option PartCopy) (at : Point) (format : Format) →
    Lends call i lent targets frame part format → given.Suits call (given_of i) (given.held_in (held_of call) targets) format →
    Suits (lent_call call at) lent format
lent_suits (Blt c) i lent targets frame part at format l h =
    (lent_translates (Blt c) i lent targets frame part format l h.0, lent_brush (Blt c) i lent targets frame part format l h.1)
lent_suits (Copy c) i lent targets frame part at format l h = lent_translates (Copy c) i lent targets frame part format l h.0
lent_suits (Paint c) i lent targets frame part at format l h = lent_brush (Paint c) i lent targets frame part format l h

-- a call holds nothing once its source is lent
pub lent_holds : (call : DrawCall) (at : Point) → held_of (lent_call call at) ≡ None
lent_holds (Blt c) at = refl
lent_holds (Copy c) at = refl
lent_holds (Paint c) at = refl

-- its coordinates can be counted from the corner of a part of its target

one_moves : (z c : ℤ) → given.IsCoordinate z → pos 0 ≤ℤ c → c ≤ℤ pos 4096 → FitsSigned w32 (z +ℤ (pos 0 -ℤ c))
one_moves z c h low high = grind (arith, ints, h.0, h.1, low, high)

rect_moves : (r frame : Rect) → given.IsCallRect r → LiesOnTarget frame → RectMoves (to_origin (corner_of frame)) r
rect_moves r frame h on = record {
  left = one_moves r.left frame.left h.left on.left (omega (arith, ints, on.across, on.right));
  top = one_moves r.top frame.top h.top on.top (omega (arith, ints, on.down, on.bottom));
  right = one_moves r.right frame.left h.right on.left (omega (arith, ints, on.across, on.right));
  bottom = one_moves r.bottom frame.top h.bottom on.top (omega (arith, ints, on.down, on.bottom));
}

point_moves : (p : Point) (frame : Rect) → given.IsPoint p → LiesOnTarget frame → PointMoves p (to_origin (corner_of frame))
point_moves p frame h on = record {
  across = one_moves p.x frame.left h.0 on.left (omega (arith, ints, on.across, on.right));
  down = one_moves p.y frame.top h.1 on.top (omega (arith, ints, on.down, on.bottom));
}

pub lent_moves : (call : DrawCall) (frame : Rect) (at : Point) → given.HasCoordinates call → LiesOnTarget frame →
    CallMoves (lent_call call at) (to_origin (corner_of frame))
lent_moves (Blt c) frame at h on = (rect_moves c.rect frame h.0 on, point_moves c.origin frame h.3 on)
lent_moves (Copy c) frame at h on = rect_moves c.rect frame h.0 on
lent_moves (Paint c) frame at h on = (rect_moves c.rect frame h.0 on, point_moves c.origin frame h.1 on)

-- a call that is moved
pub moved_holds : (call : DrawCall) (by : Point) → held_of call ≡ None → held_of (moved_call call by) ≡ None
moved_holds (Blt c) by h = h
moved_holds (Copy c) by h = h
moved_holds (Paint c) by h = h

pub moved_suits : (call : DrawCall) (by : Point) (i : Inputs) (format : Format) → Suits call i format → Suits (moved_call call by) i format
moved_suits (Blt c) by i format h = h
moved_suits (Copy c) by i format h = h
moved_suits (Paint c) by i format h = h

frame_edge : (z c : ℤ) → pos 0 ≤ℤ c → z ≤ℤ pos 4096 → pos 0 ≤ℤ z → c ≤ℤ pos 4096 → FitsSigned w32 (z +ℤ (pos 0 -ℤ c))
frame_edge z c a b d e = grind (arith, ints, a, b, d, e)

pub frame_moves : (frame : Rect) → LiesOnTarget frame → RectMoves (to_origin (corner_of frame)) frame
frame_moves frame on = record {
  left = frame_edge frame.left frame.left on.left (omega (arith, ints, on.across, on.right)) on.left (omega (arith, ints, on.across, on.right));
  top = frame_edge frame.top frame.top on.top (omega (arith, ints, on.down, on.bottom)) on.top (omega (arith, ints, on.down, on.bottom));
  right = frame_edge frame.right frame.left on.left on.right (omega (arith, ints, on.left, on.across)) (omega (arith, ints, on.across, on.right));
  bottom = frame_edge frame.bottom frame.top on.top on.bottom (omega (arith, ints, on.top, on.down)) (omega (arith, ints, on.down, on.bottom));
}

-- rectangles within a frame, seen from its corner, lie on a surface of its size

one_inside : (frame r : Rect) → LiesWithin frame r → LiesIn (moved_rect r (to_origin (corner_of frame))) (sides_of frame)
one_inside frame r h = record {
  left = omega (arith, ints, h.left);
  across = omega (arith, ints, h.across);
  right = omega (arith, ints, h.left, h.across, h.right);
  top = omega (arith, ints, h.top);
  down = omega (arith, ints, h.down);
  bottom = omega (arith, ints, h.top, h.down, h.bottom);
}

pub all_inside : (frame : Rect) (rects seen : List Rect) → seen ≡ map (λ r. moved_rect r (to_origin (corner_of frame))) rects → All (LiesWithin frame) rects →
    All (λ r. LiesIn r (sides_of frame)) seen
all_inside frame rects seen e h = subst (All (λ r. LiesIn r (sides_of frame))) (sym e)
    (All-map (λ r. LiesIn r (sides_of frame)) (λ r. moved_rect r (to_origin (corner_of frame))) rects (λ k d lt. one_inside frame (get_or rects k d) (h k d lt)))
