-- What a screen's driver is handed for a drawing is what its call needs.
use Rattle.std.proofs.Common.{Bor, ◌≡◌, ◌≢◌, ◌∙◌, ℕ, Bool, true, false, IsTrue, List, Option, Some, None, refl, sym, ap, subst, arith, true≢false}
use Rattle.std.specs.Prelude.{is_some, option_map, unwrap_or}
use Rattle.std.specs.List.{All}
use Rattle.std.proofs.lemmas.Int.{ints}
use Rattle.geom_base.specs.declared.point.Point.{Point}
use Rattle.geom_base.specs.declared.rect.Rect.{Rect}
use Rattle.geom_base.specs.declared.target.Target.TheVariants.{Screen}
use Rattle.geom_base.specs.Drawn.{Drawn}
use Rattle.geom_base.specs.Points.{LiesIn, is_in, is_in_some}
use Rattle.pix_format.specs.Value.{bits_of}
use Rattle.pix_format.specs.declared.format.Format.{Format}
use Rattle.pix_format.specs.declared.format.Format.TheVariants.{B1, B4, B8, B555, B565, B24, B32}
use Rattle.pix_format.specs.declared.rgb.Rgb.{Rgb}
use Rattle.pix_format.specs.Xlate.{Translation}
use Rattle.surf_obj.specs.Surface.{Surface}
use Rattle.surf_obj.specs.declared.view.LentView.{LentView}
use Rattle.brush_obj.specs.Calls.{PointMovesBack, shown, held_of, lent_call, moved_call, rect_of, src_of, target_of}
use Rattle.brush_obj.specs.declared.draw_call.DrawCall.{DrawCall}
use Rattle.brush_obj.specs.declared.draw_call.DrawCall.TheVariants.{Blt, Copy, Paint}
use Rattle.brush_obj.specs.declared.face.BrushFace.{BrushFace}
use Rattle.clip_obj.specs.Clip.{to_origin}
use Rattle.copy_port.specs.Given.{CanDraw, Given, asked_of, picture_of_view, HasCoordinates, HoldsLive, IsCallRect, IsThereAnd, LeadsFrom, Picture, Suits, first_of, held_in, picture_of}
use Rattle.copy_port.specs.State.{IsLive, PortState, Shown, surface_of}
use Rattle.ddi_driver.specs.Hook.{given_for}
use Rattle.hook_route.specs.Routes.{Routed}
use Rattle.hook_route.specs.declared.outcome.Outcome.{Outcome}
use Rattle.script_orders.specs.Asked.{HasNeeded}
use Rattle.script_orders.specs.Live.{FeedIsThere, MaskIsThere}
use Rattle.script_orders.specs.PlaceLaws.{call_moves, drawn_in_reach, drawn_moved, IsShift, place_in_reach, place_moved, place_moved_back, place_moves_back, RectInReach}
use Rattle.script_orders.specs.PlaceLaws.{stand_shifts, stand_shifts_back}
use Rattle.script_orders.specs.Places.{IsPlaced, MayStandAt}
use Rattle.script_orders.specs.Rows.{zero_point}
use Rattle.script_orders.specs.declared.desk_command.DeskCommand.{DeskCommand}
use Rattle.script_orders.specs.declared.desk_command.Feed.{Feed}
use Rattle.script_orders.specs.declared.desk_command.Feed.TheVariants as feeds
use Rattle.script_orders.specs.declared.desk_command.Spot.TheVariants as spots
use Rattle.desk_span.specs.Desk.{State, live_of, mask_surface}
use Rattle.desk_span.specs.InnerBeside.{CanBeSeen, IsAlone, is_own, source_surface, stand_of}
use Rattle.desk_span.specs.InnerDrawing.{Seen, held_for, seen_of, seen_of_view, source_held}
use Rattle.desk_span.specs.InnerPieces.{aimed, screen_call}
use Rattle.desk_span.specs.InnerRouted.{handed, lent_bitmap, mask_bitmap}
use Rattle.desk_span.specs.Kept.{ScreenKept}
use Rattle.desk_span.proofs.BitsLemmas.{LooksLike}
use Rattle.desk_span.proofs.LiveLemmas.{there as found}
use Rattle.desk_span.proofs.PieceLemmas.{coordinates_aimed, rect_aimed}

-- the coordinates of a drawing on a screen
zero_shift : IsShift zero_point
zero_shift = ((omega (arith, ints), omega (arith, ints)), (omega (arith, ints), omega (arith, ints)))

stand_shift : (at : Point) (feed : Feed) → MayStandAt at → IsShift (stand_of at feed)
stand_shift at feeds.Nothing h = zero_shift
stand_shift at feeds.Desk h = stand_shifts at h
stand_shift at (feeds.Bitmap n) h = zero_shift
stand_shift at (feeds.Row values) h = zero_shift

call_rect : (r : Rect) → RectInReach r → IsCallRect r
call_rect r h = record { across = h.across; down = h.down; left = h.left; top = h.top; right = h.right; bottom = h.bottom }

seen_coordinates : (call : DrawCall) (at stand : Point) → MayStandAt at → IsShift stand → IsPlaced call →
    HasCoordinates (lent_call (moved_call call (to_origin at)) stand)
seen_coordinates (Blt c) at stand h k (rect, src, mask, origin) =
    let back = stand_shifts_back at h in
    (call_rect _ (drawn_moved c.rect (to_origin at) rect back), place_moved_back c.src stand src k, place_in_reach c.mask mask, place_moved c.origin (to_origin at) origin back)
seen_coordinates (Copy c) at stand h k (rect, src) =
    (call_rect _ (drawn_moved c.rect (to_origin at) rect (stand_shifts_back at h)), place_moved_back c.src stand src k)
seen_coordinates (Paint c) at stand h k (rect, origin) =
    let back = stand_shifts_back at h in
    (call_rect _ (drawn_moved c.rect (to_origin at) rect back), place_moved c.origin (to_origin at) origin back)

-- and those of a call on a bitmap, its source counted from where a screen stands
pub lent_coordinates : (call : DrawCall) (stand : Point) → IsShift stand → IsPlaced call → HasCoordinates (lent_call call stand)
lent_coordinates (Blt c) stand h (rect, src, mask, origin) =
    (call_rect _ (drawn_in_reach c.rect rect), place_moved_back c.src stand src h, place_in_reach c.mask mask, place_in_reach c.origin origin)
lent_coordinates (Copy c) stand h (rect, src) = (call_rect _ (drawn_in_reach c.rect rect), place_moved_back c.src stand src h)
lent_coordinates (Paint c) stand h (rect, origin) = (call_rect _ (drawn_in_reach c.rect rect), place_in_reach c.origin origin)

pub screen_coordinates : (w : ScreenKept) (c : DeskCommand) → MayStandAt w.at → IsPlaced c.call → HasCoordinates (screen_call w c)
screen_coordinates w c h places = seen_coordinates c.call w.at (stand_of w.at c.source) h (stand_shift w.at c.source h) places

pub source_moves : (call : DrawCall) (stand : Point) → IsShift stand → IsPlaced call → PointMovesBack (src_of call) stand
source_moves (Blt c) stand h (rect, src, mask, origin) = place_moves_back c.src stand src h
source_moves (Copy c) stand h (rect, src) = place_moves_back c.src stand src h
source_moves (Paint c) stand h (rect, origin) = record {
  across = grind (arith, ints, h.0.0, h.0.1);
  down = grind (arith, ints, h.1.0, h.1.1);
}

pub screen_seen : (w : ScreenKept) (c : DeskCommand) → MayStandAt w.at → IsPlaced c.call → CanBeSeen c.call w.at (stand_of w.at c.source)
screen_seen w c h places = record {
  call = call_moves c.call (to_origin w.at) places (stand_shifts_back w.at h);
  source = source_moves c.call (stand_of w.at c.source) (stand_shift w.at c.source h) places;
}

-- what a drawing on the desk reads, beside what is drawn on
pub lent_source : (s : State) (at : Point) (t : Surface) (feed : Feed) → IsAlone s at t → FeedIsThere (live_of s) spots.Desk feed →
    source_held (lent_bitmap s.bitmaps spots.Desk feed) (held_for (is_own spots.Desk feed) Screen) t ≡ source_surface s t feed
lent_source s at t feeds.Nothing alone h = refl
lent_source s at t feeds.Desk alone h = rw alone.screens refl
lent_source s at t (feeds.Bitmap n) alone h = let f = found s n _ h in rw f.here refl
lent_source s at t (feeds.Row values) alone h = absurd h

pub own_is_held : (bitmaps : List (Option Surface)) (feed : Feed) → is_own spots.Desk feed ≡ true → lent_bitmap bitmaps spots.Desk feed ≡ None
own_is_held bitmaps feeds.Nothing e = refl
own_is_held bitmaps feeds.Desk e = refl
own_is_held bitmaps (feeds.Bitmap n) e = absurd (true≢false (sym e))
own_is_held bitmaps (feeds.Row values) e = refl

pub mask_read : (s : State) (mask : Option ℕ) → mask_bitmap s.bitmaps mask ≡ mask_surface s mask
mask_read s None = refl
mask_read s (Some n) = refl

-- a source that is needed is there
has_source : (s : State) (t : Surface) (feed : Feed) (shown : Shown) → shown Screen ≡ Some t → FeedIsThere (live_of s) spots.Desk feed → feed ≢ feeds.Nothing →
    IsTrue (is_some (first_of (option_map picture_of (lent_bitmap s.bitmaps spots.Desk feed)) (held_in (held_for (is_own spots.Desk feed) Screen) shown)))
has_source s t feeds.Nothing shown there h needed = absurd (needed refl)
has_source s t feeds.Desk shown there h needed = rw there refl
has_source s t (feeds.Bitmap n) shown there h needed = let f = found s n _ h in rw f.here refl
has_source s t (feeds.Row values) shown there h needed = absurd h

one_bit : (format : Format) → bits_of format ≡ 1 → format ≡ B1
one_bit B1 e = refl
one_bit B4 e = absurd (omega (arith, e))
one_bit B8 e = absurd (omega (arith, e))
one_bit B555 e = absurd (omega (arith, e))
one_bit B565 e = absurd (omega (arith, e))
one_bit B24 e = absurd (omega (arith, e))
one_bit B32 e = absurd (omega (arith, e))

-- and so is a mask
has_mask : (s : State) (mask : Option ℕ) → MaskIsThere (live_of s) mask → IsTrue (is_some mask) →
    IsThereAnd (option_map picture_of (mask_bitmap s.bitmaps mask)) (λ (m : Picture). m.format ≡ B1)
has_mask s None h needed = absurd (true≢false (sym needed))
has_mask s (Some n) h needed = let f = found s n _ h in rw f.here (one_bit f.surface.format f.is)

-- a translation leads from what is lent, or held
leads_from : (lent : Option Surface) (own : Bool) (shown : Shown) (t : Surface) (other : Surface) (xlate : Translation) → shown Screen ≡ Some t →
    xlate.from ≡ (unwrap_or lent other).format → other.format ≡ t.format →
    LeadsFrom (first_of (option_map picture_of lent) (held_in (held_for own Screen) shown)) xlate
leads_from (Some u) own shown t other xlate there from same = from
leads_from None true shown t other xlate there from same = rw there (from ∙ same)
leads_from None false shown t other xlate there from same = tt

-- a call on a screen draws there, and holds only what it draws on
pub target_aimed : (own : Bool) (call : DrawCall) → target_of (aimed own call) ≡ Screen
target_aimed own (Blt c) = refl
target_aimed own (Copy c) = refl
target_aimed own (Paint c) = refl

holds_live : (own : Bool) (call : DrawCall) (lent mask : Option Surface) (xlate : Translation) (table : List Rgb) (face : BrushFace) (shown : Shown) →
    IsLive shown Screen → (own ≡ true → lent ≡ None) →
    HoldsLive (held_of (aimed own call)) (handed (aimed own call) lent mask xlate table face).source shown
holds_live true (Blt c) lent mask xlate table face shown live none = (live, ap (option_map picture_of) (none refl))
holds_live false (Blt c) lent mask xlate table face shown live none = tt
holds_live true (Copy c) lent mask xlate table face shown live none = (live, ap (option_map picture_of) (none refl))
holds_live false (Copy c) lent mask xlate table face shown live none = tt
holds_live own (Paint c) lent mask xlate table face shown live none = tt

same_table : (own : Bool) (call : DrawCall) (lent mask : Option Surface) (xlate : Translation) (table : List Rgb) (face : BrushFace) →
    (handed (aimed own call) lent mask xlate table face).table ≡ table
same_table own (Blt c) lent mask xlate table face = refl
same_table own (Copy c) lent mask xlate table face = refl
same_table own (Paint c) lent mask xlate table face = refl

module _ (s : State) (t : Surface) (feed : Feed) (mask : Option ℕ) (shown : Shown) (there : shown Screen ≡ Some t) (other : Surface)
    (same : other.format ≡ t.format) (feeds_there : FeedIsThere (live_of s) spots.Desk feed) (mask_there : MaskIsThere (live_of s) mask)
    (xlate : Translation) (table : List Rgb) (face : BrushFace)
    (from : xlate.from ≡ (unwrap_or (lent_bitmap s.bitmaps spots.Desk feed) other).format) (to : xlate.to ≡ t.format) where
  abbrev pub lent : Option Surface
  lent = lent_bitmap s.bitmaps spots.Desk feed

  abbrev pub own : Bool
  own = is_own spots.Desk feed

  abbrev pub bits : Option Surface
  bits = mask_bitmap s.bitmaps mask

  suits_there : (call : DrawCall) (by stand : Point) → HasNeeded call feed mask →
      Suits (aimed own (lent_call (moved_call call by) stand)) (handed (aimed own (lent_call (moved_call call by) stand)) lent bits xlate table face)
      (held_in (held_of (aimed own (lent_call (moved_call call by) stand))) shown) t.format
  suits_there (Blt c) by stand needs = (
    (leads_from lent own shown t other xlate there from same, to),
    refl,
    λ reads. has_source s t feed shown there feeds_there (needs.0 reads),
    λ reads. has_mask s mask mask_there (needs.1 reads),
  )
  suits_there (Copy c) by stand needs =
      ((leads_from lent own shown t other xlate there from same, to), has_source s t feed shown there feeds_there needs)
  suits_there (Paint c) by stand needs = refl

  -- a drawing's call can be drawn on a screen
  pub can_route : (w : ScreenKept) (c : DeskCommand) (rects : List Rect) → c.source ≡ feed → c.mask ≡ mask → IsLive shown Screen →
      HasNeeded c.call c.source c.mask → IsPlaced c.call → MayStandAt w.at → table ≡ t.table → All (λ r. LiesIn r t.size) rects →
      ((p : Point) → IsTrue (is_in_some p rects) → IsTrue (is_in p (rect_of (screen_call w c)))) →
      CanDraw (aimed own (screen_call w c)) (handed (aimed own (screen_call w c)) lent bits xlate table face) shown rects
  can_route w c rects source masked live needs places stands tables inside reach =
      let call = aimed own (screen_call w c) in
      let at : target_of call ≡ Screen = target_aimed own (screen_call w c) in
      let here : surface_of shown Screen ≡ t = ap (λ (o : Option Surface). unwrap_or o (surface_of (λ q. None) Screen)) there in
      record {
        alive = subst (IsLive shown) (sym at) live;
        held = holds_live own (screen_call w c) lent bits xlate table face shown live (own_is_held s.bitmaps feed);
        inside = rw (at, here) inside;
        reach = λ p h. subst (λ (r : Rect). IsTrue (is_in p r)) (sym (rect_aimed own (screen_call w c))) (reach p h);
        coordinates = coordinates_aimed own (screen_call w c) (screen_coordinates w c stands places);
        table = same_table own (screen_call w c) lent bits xlate table face ∙ tables ∙ sym (ap (λ (u : Surface). u.table) (ap (surface_of shown) at ∙ here));
        suits = rw (at, here) (suits_there c.call (to_origin w.at) (stand_of w.at c.source)
            (subst (λ (m : Option ℕ). HasNeeded c.call feed m) masked (subst (λ (f : Feed). HasNeeded c.call f c.mask) source needs)));
      }

-- a view that is lent of a surface is that surface's picture
picture_lent : (lent : Option (Bor LentView)) (handed : Option Surface) → LooksLike lent handed → option_map picture_of_view lent ≡ option_map picture_of handed
picture_lent None None e = refl
picture_lent (Some v) (Some s) e = let same : seen_of_view v.now ≡ seen_of s = cc in ap (λ (l : Seen). Some (record { format = l.1; at = shown l.0 l.2 })) same
picture_lent None (Some s) e = absurd (cc)
picture_lent (Some v) None e = absurd (cc)

given_handed : (call : DrawCall) (src mask : Option (Bor LentView)) (source mono : Option Surface) (xlate : Translation) (table : List Rgb) (face : BrushFace) →
    LooksLike src source → LooksLike mask mono → given_for call src mask xlate table face ≡ handed call source mono xlate table face
given_handed (Blt c) src mask source mono xlate table face e f = λ i. record {
  source = picture_lent src source e i;
  mask = picture_lent mask mono f i;
  xlate = Some xlate;
  table = table;
  brush = Some face;
}
given_handed (Copy c) src mask source mono xlate table face e f = λ i. record {
  source = picture_lent src source e i;
  mask = None;
  xlate = Some xlate;
  table = table;
  brush = None;
}
given_handed (Paint c) src mask source mono xlate table face e f = refl

-- what can be drawn with what is lent is what can be drawn with the surfaces, and is drawn
module _ (call : DrawCall) (src mask : Option (Bor LentView)) (source mono : Option Surface) (xlate : Translation) (table : List Rgb) (face : BrushFace)
    (sources : LooksLike src source) (masks : LooksLike mask mono) where
  pub can_as : (targets : Shown) (rects : List Rect) → CanDraw call (handed call source mono xlate table face) targets rects →
      CanDraw call (given_for call src mask xlate table face) targets rects
  can_as targets rects h =
      subst (λ (g : Given). CanDraw call g targets rects) (sym (given_handed call src mask source mono xlate table face sources masks)) h

  pub routed_as : (targets : Shown) (rects : List Rect) (before after : PortState) (d e : Drawn) (outcome : Outcome) →
      Routed (asked_of call (given_for call src mask xlate table face) targets rects) before after d e outcome →
      Routed (asked_of call (handed call source mono xlate table face) targets rects) before after d e outcome
  routed_as targets rects before after d e outcome h =
      subst (λ (g : Given). Routed (asked_of call g targets rects) before after d e outcome) (given_handed call src mask source mono xlate table face sources masks) h
