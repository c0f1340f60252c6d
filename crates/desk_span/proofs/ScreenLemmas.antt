-- What a drawing on the screen of a desk leaves, with its report.
use Rattle.std.proofs.Common.{Bor, ◌^◌, ◌≡◌, ◌∙◌, ℕ, zero, suc, ◌<◌, Bool, true, false, ◌&&◌, ◌||◌, IsTrue, List, [], ◌∷◌, length, get_or, set, Option, Some, None}
use Rattle.std.proofs.Common.{refl, sym, ap, subst, arith, le_refl, true≢false}
use Rattle.std.specs.Option.{option_copied}
use Rattle.std.specs.Prelude.{if◌then◌else◌, unwrap_or, IfSome}
use Rattle.std.specs.List.{All}
use Rattle.std.proofs.lemmas.List.Elements.{All-set}
use Rattle.std.proofs.lemmas.Bool.{and_parts, false_from_ne_true}
use Rattle.std.proofs.lemmas.Int.{ints}
use Rattle.std.proofs.lemmas.Option.{none-some, same_Some}
use Rattle.geom_base.specs.declared.point.Point.{Point}
use Rattle.geom_base.specs.declared.rect.Rect.{Rect}
use Rattle.geom_base.specs.declared.size.Size.{Size}
use Rattle.geom_base.specs.declared.target.Target.{Target}
use Rattle.geom_base.specs.declared.target.Target.TheVariants as targets
use Rattle.geom_base.specs.Drawn.{Drawn}
use Rattle.geom_base.specs.PointLaws.{is_in-IsIn}
use Rattle.geom_base.specs.Points.{HasPoints, IsIn, LiesIn, is_in, is_in_some, moved, moved_back, moved_rect, point_at, whole}
use Rattle.geom_base.specs.Step.{Change, nowhere}
use Rattle.pix_format.specs.declared.format.Format.{Format}
use Rattle.pix_format.specs.declared.rgb.Rgb.{Rgb}
use Rattle.pix_format.specs.Xlate.{Translation}
use Rattle.surf_obj.specs.Surface.{Surface}
use Rattle.brush_obj.specs.Calls.{CallsLend, CallsMove, held_of, lent_call, moved_call, new_of_call, reads_source, rect_of, source_point, target_of}
use Rattle.brush_obj.specs.declared.draw_call.DrawCall.{DrawCall}
use Rattle.brush_obj.specs.declared.draw_call.DrawCall.TheVariants.{Blt, Copy, Paint}
use Rattle.brush_obj.specs.Brush.{IsRealised}
use Rattle.brush_obj.specs.Slots.{Brush, kept}
use Rattle.brush_obj.specs.declared.face.BrushFace.{BrushFace}
use Rattle.brush_obj.specs.declared.face.BrushFace.TheVariants as faces
use Rattle.clip_obj.specs.Clip.{LiesWithin, allows, to_origin}
use Rattle.clip_obj.specs.ClipLaws.{all_within, clip_in, lies_within}
use Rattle.copy_port.specs.Classes.{hook_of}
use Rattle.copy_port.specs.Given.{Asked, CanDraw, Given, asked_of, held_in, operands_given}
use Rattle.copy_port.specs.Laws.{drawn_on-nowhere}
use Rattle.copy_port.specs.State.{PortState, Rest, Shown, drawn_on, surface_of}
use Rattle.ddi_driver.specs.Kept.{SameBitmaps, SameMode}
use Rattle.hook_route.specs.Routes.{Routed}
use Rattle.hook_route.specs.declared.outcome.Outcome.{Outcome}
use Rattle.hook_route.specs.declared.outcome.Outcome.TheVariants as outcomes
use Rattle.script_orders.specs.Live.{CanDraw as CanBeDrawn, FeedIsThere, Live}
use Rattle.script_orders.specs.Places.{HasPlaces, IsPlaced, MayStandAt}
use Rattle.script_orders.specs.declared.desk_command.BrushUse.{BrushUse}
use Rattle.script_orders.specs.declared.desk_command.BrushUse.TheVariants as uses
use Rattle.script_orders.specs.declared.desk_command.DeskCommand.{DeskCommand}
use Rattle.script_orders.specs.declared.desk_command.Feed.{Feed}
use Rattle.script_orders.specs.declared.desk_command.Feed.TheVariants as feeds
use Rattle.script_orders.specs.declared.desk_command.Spot.{Spot}
use Rattle.script_orders.specs.declared.desk_command.Spot.TheVariants as spots
use Rattle.script_orders.specs.declared.named.Named.TheVariants as named
use Rattle.script_orders.specs.declared.script_command.ScriptCommand.TheVariants as asked
use Rattle.desk_span.specs.Desk.{State, area_of, face_of, in_clip, live_of, new_of, translation}
use Rattle.desk_span.specs.Drives.{Drives, HasCause, IsOffer}
use Rattle.desk_span.specs.declared.on_screen.Handed.{Handed}
use Rattle.desk_span.specs.InnerBeside.{IsAlone, is_own, plain_colour, source_surface, stand_of}
use Rattle.desk_span.specs.InnerDrawing.{held_for, source_held, translation_for}
use Rattle.desk_span.specs.InnerPieces.{IsPiece, aimed, piece_on, screen_call}
use Rattle.desk_span.specs.InnerRouted.{DrawnByDriver, DrewOn, IsRouted, face_among, handed, handed_with, lent_bitmap, mask_bitmap, plate, routed_report, wanting_there}
use Rattle.desk_span.specs.Kept.{Kept, Serves, live_in, shown_by_driver, state_by}
use Rattle.desk_span.specs.Meeting.{IsTarget, Meets, Reaches}
use Rattle.desk_span.specs.Pieces.{HasPiece, is_desk, piece_area}
use Rattle.desk_span.specs.Reports.{Told, report_on}
use Rattle.desk_span.specs.Telling.{IsPart, IsReport}
use Rattle.desk_span.specs.declared.screen.Piece.{Piece}
use Rattle.desk_span.proofs.DrawLemmas.{allows-in_clip}
use Rattle.desk_span.proofs.FrameLemmas.{all_lie_in}
use Rattle.desk_span.proofs.HandedLemmas.{can_route, lent_source, mask_read, target_aimed}
use Rattle.desk_span.proofs.PieceLemmas.{reached_on_screen}
use Rattle.desk_span.proofs.RoutedLemmas.{all_shown, part_shown, routed_drives, routed_new, same_change, same_drawing, shown_there, untouched_there}

or_false : (b : Bool) → (b || false) ≡ b
or_false true = refl
or_false false = refl

-- the piece of a desk's one screen
pub same_piece : (k : Kept) (driver : PortState) (c : DeskCommand) → Serves k.screen driver → (p : Point) →
    piece_area (state_by k driver) c 0 p ≡ piece_on k.screen c p
same_piece k driver c serves p =
    let q = moved p k.screen.at in
    let r = moved_back k.screen.at (source_point c.call q) in
    ap (λ (b : Bool). area_of c q && (if reads_source c.call && is_desk c.source then b else true))
    (or_false (is_in r (whole (shown_by_driver driver).size)) ∙ ap (λ (z : Size). is_in r (whole z)) serves.size)

has_piece : (k : Kept) (driver : PortState) (c : DeskCommand) → Serves k.screen driver → c.target ≡ spots.Desk → Reaches (piece_on k.screen c) k.screen.size →
    HasPiece (state_by k driver) c 0
has_piece k driver c serves desk r = record {
  target = desk;
  surface = shown_by_driver driver;
  there = refl;
  reached = record {
    point = r.point;
    inside = subst (λ (z : Size). IsTrue (is_in r.point (whole z))) (sym serves.size) r.inside;
    reached = same_piece k driver c serves r.point ∙ r.reached;
  };
}

no_piece : (k : Kept) (driver : PortState) (c : DeskCommand) → Serves k.screen driver → ¬ (Reaches (piece_on k.screen c) k.screen.size) →
    ¬ (HasPiece (state_by k driver) c 0)
no_piece k driver c serves none h =
    let same : h.surface.size ≡ k.screen.size = ap (λ (u : Surface). u.size) (same_Some _ _ (sym h.there)) ∙ serves.size in
    none (record {
      point = h.reached.point;
      inside = subst (λ (z : Size). IsTrue (is_in h.reached.point (whole z))) same h.reached.inside;
      reached = sym (same_piece k driver c serves h.reached.point) ∙ h.reached.reached;
    })

-- nothing changes of a driver that is asked nothing
same_mode : (r : Rest) → SameMode r r
same_mode r = record { driver = record { kind = refl; limits = refl }; enabled = refl; hooks = refl; cuts = refl }

same_bitmaps : (r : Rest) → SameBitmaps r r
same_bitmaps r = record { asked = refl; made = refl }

unasked : (s : State) (c : DeskCommand) (told : List Told) (driver : PortState) → All (λ (t : Told). HasCause t.cause driver.faults driver.faults) told →
    IsOffer (driver.rest.hooks (hook_of c.call)) (HasPiece s c 0) (report_on told (named.Screen 0)) 0 → Drives s (asked.Draw c) told 0 driver driver
unasked s c told driver causes offer = record {
  later = le_refl _;
  causes = causes;
  offered = (0, offer, refl);
  declined = (0, record { most = omega arith; count = refl; written = λ z t. refl });
  mode = same_mode driver.rest;
  bitmaps = same_bitmaps driver.rest;
}

-- a drawing that has no piece on the screen changes nothing
pub nothing_asked : (k : Kept) (driver : PortState) (c : DeskCommand) → Serves k.screen driver → ¬ (Reaches (piece_on k.screen c) k.screen.size) →
    ((p : Point) (d : ℕ) → area_of c (moved p k.screen.at) ≡ true → piece_on k.screen c p ≡ false → new_of (state_by k driver) c (shown_by_driver driver) (moved p k.screen.at) d ≡ None) →
    DrewOn k c None driver driver
nothing_asked k driver c serves none lacks = record {
  shown = sym (drawn_on-nowhere targets.Screen (λ p. new_of (state_by k driver) c (shown_by_driver driver) (moved p k.screen.at)) driver.shown)
      ∙ same_drawing driver.shown _ (λ p. new_of (state_by k driver) c (shown_by_driver driver) (moved p k.screen.at)) nowhere (λ p. true && area_of c (moved p k.screen.at)) serves.alive
      (same_change (shown_by_driver driver) _ (λ p. new_of (state_by k driver) c (shown_by_driver driver) (moved p k.screen.at)) nowhere (λ p. true && area_of c (moved p k.screen.at)) (driver.sound targets.Screen serves.alive).count
      (λ x y hx hy h. absurd (true≢false (sym h)))
      (λ x y hx hy h reached d. lacks (point_at x y) d reached (off (point_at x y) (on_it x y hx hy))));
  report = tt;
  drives = unasked (state_by k driver) c [] driver (λ i d lt. absurd (omega (arith, lt))) (record {
    most = omega arith;
    hooked_only = λ e. refl;
    piece_only = λ e. refl;
    whole = λ e t p. absurd (no_piece k driver c serves none p);
    part = tt;
  });
}
  where
    on_it : (x y : ℕ) → x < (shown_by_driver driver).size.w → y < (shown_by_driver driver).size.h → IsTrue (is_in (point_at x y) (whole k.screen.size))
    on_it x y hx hy = subst (λ (z : Size). IsTrue (is_in (point_at x y) (whole z))) serves.size ((is_in-IsIn (point_at x y) (whole (shown_by_driver driver).size)).1 (record {
      from_left = omega (arith, ints);
      to_right = omega (arith, ints, hx);
      from_top = omega (arith, ints);
      to_bottom = omega (arith, ints, hy);
    }))

    off : (p : Point) → IsTrue (is_in p (whole k.screen.size)) → piece_on k.screen c p ≡ false
    off p on = false_from_ne_true (piece_on k.screen c p) (λ h. none (record { point = p; inside = on; reached = h }))

-- memory was wanting before anything was asked
pub memory_wanting : (k : Kept) (driver : PortState) (c : DeskCommand) → IsReport (state_by k driver) c wanting_there →
    DrewOn k c (Some wanting_there) driver driver
memory_wanting k driver c told = record {
  shown = sym (drawn_on-nowhere targets.Screen (λ p. new_of (state_by k driver) c (shown_by_driver driver) (moved p k.screen.at)) driver.shown);
  report = told;
  drives = unasked (state_by k driver) c (wanting_there ∷ []) driver (λ i d lt. one i d lt) (record {
    most = omega arith;
    hooked_only = λ e. refl;
    piece_only = λ e. refl;
    whole = λ e t p. absurd (none-some _ (sym e));
    part = λ drawn t. absurd (drawn refl);
  });
}
  where
    one : (i : ℕ) (d : Told) → i < 1 → HasCause (get_or (wanting_there ∷ []) i d).cause driver.faults driver.faults
    one zero d lt = tt
    one (suc i) d lt = absurd (omega (arith, lt))

-- a drawing with a piece meets the screen
pub meets_screen : (k : Kept) (c : DeskCommand) (piece : Piece) → IsPiece k.screen c piece → c.target ≡ spots.Desk → (before : PortState) → Serves k.screen before →
    Meets (state_by k before) c (named.Screen 0)
meets_screen k c piece is desk before serves = record {
  target = subst (λ (spot : Spot). IsTarget spot (named.Screen 0)) (sym desk) tt;
  surface = shown_by_driver before;
  there = refl;
  reached = record {
    point = is.reached.point;
    inside = subst (λ (z : Size). IsTrue (is_in is.reached.point (whole z))) (sym serves.size) is.reached.inside;
    reached = (and_parts (area_of c (moved is.reached.point k.screen.at)) _ is.reached.reached).0;
  };
}

pub wanting_drew : (k : Kept) (c : DeskCommand) (piece : Piece) → IsPiece k.screen c piece → c.target ≡ spots.Desk → (driver : PortState) → Serves k.screen driver →
    (told : Told) → told ≡ wanting_there → DrewOn k c (Some told) driver driver
wanting_drew k c piece is desk driver serves told e =
    subst (λ (t : Told). DrewOn k c (Some t) driver driver) (sym e)
    (memory_wanting k driver c (record { meets = meets_screen k c piece is desk driver serves; few = omega arith; parts = λ i d lt. absurd (omega (arith, lt)); undrawn = tt }))

pub nothing_drew : (k : Kept) (c : DeskCommand) (driver : PortState) → Serves k.screen driver → ¬ (Reaches (piece_on k.screen c) k.screen.size) →
    DrewOn k c None driver driver
nothing_drew k c driver serves none =
    nothing_asked k driver c serves none
    (λ p d reached off. untouched_there k.screen (state_by k driver) c (shown_by_driver driver) (record { places = refl; screens = refl }) k.screen.size (sym serves.size) p d reached off)

-- the coordinates of a drawing on the desk
pub placed_there : (l : Live) (spot : Spot) (feed : Feed) (call : DrawCall) → spot ≡ spots.Desk → FeedIsThere l spot feed → HasPlaces feed call → IsPlaced call
placed_there l spot feeds.Nothing call e f h = h
placed_there l spot feeds.Desk call e f h = h
placed_there l spot (feeds.Bitmap n) call e f h = h
placed_there l spot (feeds.Row values) call e f h = absurd (subst (λ (s : Spot). FeedIsThere l s (feeds.Row values)) e f)

-- a drawing that was routed
module _ (k : Kept) (c : DeskCommand) (piece : Piece) (is : IsPiece k.screen c piece) (desk : c.target ≡ spots.Desk) (before after : PortState)
    (serves : Serves k.screen before) (a : Asked) (rects : List Rect) (clip : a.clip ≡ rects) (hook : a.hook ≡ hook_of c.call) (target : a.target ≡ targets.Screen)
    (news : (p : Point) (d : ℕ) → a.new p d ≡ new_of (state_by k before) c (shown_by_driver before) (moved p k.screen.at) d)
    (lacks : (p : Point) (d : ℕ) → area_of c (moved p k.screen.at) ≡ true → piece_on k.screen c p ≡ false →
    new_of (state_by k before) c (shown_by_driver before) (moved p k.screen.at) d ≡ None)
    (points : (p : Point) → IsIn p (whole k.screen.size) → is_in_some p rects ≡ piece_on k.screen c p) (inside : All (λ r. LiesIn r k.screen.size) rects)
    (d e : Drawn) (each : All HasPoints e.rects) (few : length e.rects < 2 ^ 64) where
  abbrev pub s : State
  s = state_by k before

  abbrev new : Change
  new p = new_of s c (shown_by_driver before) (moved p k.screen.at)

  shows : (outcome : Outcome) → Routed a before after d e outcome → DrawnByDriver k c (routed_report outcome e.rects) before after
  shows outcomes.All h =
      h.shown ∙ ap (λ (q : Target). drawn_on q a.new (λ p. is_in_some p a.clip) before.shown) target
      ∙ ap (λ (rs : List Rect). drawn_on targets.Screen a.new (λ p. is_in_some p rs) before.shown) clip
      ∙ all_shown before k.screen c a.new new rects serves.alive (sym serves.size) points news lacks
  shows (outcomes.Part cause) h =
      h.shown ∙ ap (λ (q : Target). drawn_on q a.new h.more before.shown) target
      ∙ part_shown before k.screen c a.new new rects serves.alive (sym serves.size) points news lacks h.more e.rects h.points
      (λ p t. subst (λ (rs : List Rect). IsTrue (is_in_some p rs)) clip (h.within p t))

  -- a rectangle that was pushed lies on the screen, and in what the drawing reaches there
  part : (h : (p : Point) → IsTrue (is_in_some p e.rects) → IsTrue (is_in_some p rects)) (i : ℕ) (r : Rect) → i < length e.rects →
      IsPart s c (named.Screen 0) (shown_by_driver before).size (get_or e.rects i r)
  part h i r lt =
      let q = get_or e.rects i r in
      let some = each i r lt in
      let on : (p : Point) → IsIn p q → IsIn p (whole k.screen.size) = λ p m.
      on_screen rects inside p (h p (in_some e.rects i r p lt ((is_in-IsIn p q).1 m))) in
      let w = lies_within q (whole k.screen.size) on some in
      record {
        some = some;
        inside = subst (λ (z : Size). LiesIn q z) (sym serves.size) (record { left = w.left; across = w.across; right = w.right; top = w.top; down = w.down; bottom = w.bottom });
        reached = λ p m. (and_parts (in_clip c.clip (moved p k.screen.at)) _ (and_parts (area_of c (moved p k.screen.at)) _
            (sym (points p (on p ((is_in-IsIn p q).0 m))) ∙ h p (in_some e.rects i r p lt m))).0).1;
      }
    where
      in_some : (rects : List Rect) (i : ℕ) (r : Rect) (p : Point) → i < length rects → IsTrue (is_in p (get_or rects i r)) → IsTrue (is_in_some p rects)
      in_some [] i r p lt m = absurd (omega (arith, lt))
      in_some (x ∷ xs) zero r p lt m = rw m refl
      in_some (x ∷ xs) (suc i) r p lt m = or_right (is_in p x) (is_in_some p xs) (in_some xs i r p (omega (arith, lt)) m)
        where
          or_right : (x y : Bool) → IsTrue y → IsTrue (x || y)
          or_right true y t = refl
          or_right false y t = t

      on_screen : (rects : List Rect) → All (λ r. LiesIn r k.screen.size) rects → (p : Point) → IsTrue (is_in_some p rects) → IsIn p (whole k.screen.size)
      on_screen rects all p m = (is_in-IsIn p (whole k.screen.size)).0 (clip_in (whole k.screen.size) rects p (all_within k.screen.size rects all) m)

  reports : (outcome : Outcome) → Routed a before after d e outcome → IfSome (routed_report outcome e.rects) (IsReport s c)
  unfolding meets_screen
  reports outcomes.All h = tt
  reports (outcomes.Part cause) h = record {
    meets = meets_screen k c piece is desk before serves;
    few = few;
    parts = part (λ p m. subst (λ (rs : List Rect). IsTrue (is_in_some p rs)) clip (h.within p (sym (h.points p) ∙ m)));
    undrawn = tt;
  }

  pub routed_drew : (outcome : Outcome) → Routed a before after d e outcome → DrewOn k c (routed_report outcome e.rects) before after
  routed_drew outcome h = record {
    shown = shows outcome h;
    report = reports outcome h;
    drives = routed_drives s c (has_piece k before c serves desk is.reached) a hook target before after d e each outcome h;
  }

-- a drawing's brush is one of those that were made
pub face_alike : (s : State) (use_of : BrushUse) → face_among s.brushes use_of ≡ face_of s use_of
face_alike s uses.Nothing = refl
face_alike s (uses.Colour colour) = refl
face_alike s (uses.Made n) = refl

-- a call's hook is that of the drawing
same_hook : (own : Bool) (call : DrawCall) (by stand : Point) → hook_of (aimed own (lent_call (moved_call call by) stand)) ≡ hook_of call
same_hook own (Blt c) by stand = refl
same_hook own (Copy c) by stand = refl
same_hook own (Paint c) by stand = refl

-- a translation that was made for a call, or any other where the call has no source
handed_by : (call : DrawCall) (lent bits : Option Surface) (table : List Rgb) (face : BrushFace) (made : Option Translation) (x y : Translation) →
    made ≡ translation_for call y → IfSome made (λ (z : Translation). x ≡ z) → handed call lent bits x table face ≡ handed call lent bits y table face
handed_by (Blt c) lent bits table face made x y e h =
    ap (λ (z : Translation). handed (Blt c) lent bits z table face) (subst (λ (o : Option Translation). IfSome o (λ (z : Translation). x ≡ z)) e h)
handed_by (Copy c) lent bits table face made x y e h =
    ap (λ (z : Translation). handed (Copy c) lent bits z table face) (subst (λ (o : Option Translation). IfSome o (λ (z : Translation). x ≡ z)) e h)
handed_by (Paint c) lent bits table face made x y e h = refl

-- a translation to a screen, or from it, is one to what its driver shows
plate_translation : (lent : Option Surface) (p t : Surface) (back : Rgb) → p.format ≡ t.format → p.table ≡ t.table →
    translation (unwrap_or lent p) p back ≡ translation (unwrap_or lent t) t back
plate_translation (Some u) p t back formats tables = λ i. record { from = u.format; from_table = u.table; to = formats i; to_table = tables i; back = back }
plate_translation None p t back formats tables = λ i. record { from = formats i; from_table = tables i; to = formats i; to_table = tables i; back = back }

module _ (k : Kept) (before : PortState) (c : DeskCommand) (piece : Piece) (is : IsPiece k.screen c piece) (desk : c.target ≡ spots.Desk)
    (can : CanBeDrawn (live_in k) c) (stands : MayStandAt k.screen.at) (serves : Serves k.screen before) (made : Option Translation) (x : Translation)
    (builds : made ≡ translation_for piece.call
    (translation (unwrap_or (lent_bitmap k.bitmaps c.target c.source) (plate k.screen)) (plate k.screen) c.back))
    (picked : IfSome made (λ (z : Translation). x ≡ z)) (region : Option (Bor (List Rect))) (regions : option_copied region ≡ c.clip) (rects : List Rect)
    (within : All (LiesWithin (moved_rect piece.asked (to_origin k.screen.at))) rects)
    (clip : (p : Point) → is_in_some p rects ≡ (allows region (moved p k.screen.at) && is_in p (moved_rect piece.asked (to_origin k.screen.at))))
    (face : BrushFace) (faces_among : face ≡ face_among k.brushes c.brush) where
  abbrev pub st : State
  st = state_by k before

  abbrev t : Surface
  t = shown_by_driver before

  abbrev pub lent : Option Surface
  lent = lent_bitmap k.bitmaps spots.Desk c.source

  abbrev pub bits : Option Surface
  bits = mask_bitmap k.bitmaps c.mask

  abbrev own : Bool
  own = is_own spots.Desk c.source

  abbrev call : DrawCall
  call = aimed own (screen_call k.screen c)

  same_call : piece.call ≡ call
  same_call = is.call ∙ ap (λ (spot : Spot). aimed (is_own spot c.source) (screen_call k.screen c)) desk

  abbrev xlate : Translation
  xlate = translation (unwrap_or lent t) t c.back

  same_xlate : translation (unwrap_or (lent_bitmap k.bitmaps c.target c.source) (plate k.screen)) (plate k.screen) c.back ≡ xlate
  same_xlate =
      ap (λ (spot : Spot). translation (unwrap_or (lent_bitmap k.bitmaps spot c.source) (plate k.screen)) (plate k.screen) c.back) desk
      ∙ plate_translation lent (plate k.screen) t c.back (sym serves.format) (sym serves.table)

  same_given : handed piece.call (lent_bitmap k.bitmaps c.target c.source) bits x k.screen.table face ≡ handed call lent bits xlate k.screen.table face
  same_given =
      handed_by piece.call (lent_bitmap k.bitmaps c.target c.source) bits k.screen.table face made x _ builds picked
      ∙ ap (λ (z : Translation). handed piece.call (lent_bitmap k.bitmaps c.target c.source) bits z k.screen.table face) same_xlate
      ∙ ap (λ (spot : Spot). handed piece.call (lent_bitmap k.bitmaps spot c.source) bits xlate k.screen.table face) desk
      ∙ ap (λ (d : DrawCall). handed d lent bits xlate k.screen.table face) same_call

  there : before.shown targets.Screen ≡ Some t
  there = shown_there before.shown serves.alive

  alone : IsAlone st k.screen.at t
  alone = record { places = refl; screens = refl }

  inside : All (λ r. LiesIn r k.screen.size) rects
  inside = all_lie_in (moved_rect piece.asked (to_origin k.screen.at)) k.screen.size rects is.inside within

  points : (p : Point) → IsIn p (whole k.screen.size) → is_in_some p rects ≡ piece_on k.screen c p
  points p on =
      clip p
      ∙ ap (λ (b : Bool). b && is_in p (moved_rect piece.asked (to_origin k.screen.at)))
      (allows-in_clip region (moved p k.screen.at) ∙ ap (λ (o : Option (List Rect)). in_clip o (moved p k.screen.at)) regions)
      ∙ is.points p on

  reach : (p : Point) → IsTrue (is_in_some p rects) → IsTrue (is_in p (rect_of (screen_call k.screen c)))
  reach p h =
      let on = (is_in-IsIn p (whole k.screen.size)).0 (clip_in (whole k.screen.size) rects p (all_within k.screen.size rects inside) h) in
      let area = (and_parts (area_of c (moved p k.screen.at)) _ (sym (points p on) ∙ h)).0 in
      reached_on_screen k.screen c p (and_parts (in_clip c.clip (moved p k.screen.at)) _ area).1

  placed : IsPlaced c.call
  placed = placed_there (live_in k) c.target c.source c.call desk can.source can.places

  feed_there : FeedIsThere (live_of st) spots.Desk c.source
  feed_there = subst (λ (spot : Spot). FeedIsThere (live_in k) spot c.source) desk can.source

  abbrev pub g : Given
  g = handed piece.call (lent_bitmap k.bitmaps c.target c.source) bits x k.screen.table face

  -- the call can be drawn
  pub piece_can : CanDraw piece.call (handed piece.call (lent_bitmap k.bitmaps c.target c.source) bits x k.screen.table face) before.shown rects
  piece_can =
      subst (λ (g : Given). CanDraw piece.call g before.shown rects) (sym same_given)
      (subst (λ (d : DrawCall). CanDraw d (handed call lent bits xlate k.screen.table face) before.shown rects) (sym same_call)
      (can_route st t c.source c.mask before.shown there (plate k.screen) (sym serves.format) feed_there can.mask xlate k.screen.table face
      (from_plate lent) refl k.screen c rects refl refl serves.alive can.needs placed stands (sym serves.table)
      (subst (λ (z : Size). All (λ r. LiesIn r z) rects) (sym serves.size) inside) reach))
    where
      from_plate : (o : Option Surface) → (translation (unwrap_or o t) t c.back).from ≡ (unwrap_or o (plate k.screen)).format
      from_plate (Some u) = refl
      from_plate None = serves.format

  -- and is what the drawing asks for
  pub piece_drew : CallsLend → CallsMove → (after : PortState) (told : Option Told) →
      IsRouted (asked_of piece.call (handed piece.call (lent_bitmap k.bitmaps c.target c.source) bits x k.screen.table face) before.shown rects) before after told →
      DrewOn k c told before after
  piece_drew lends moves after told h =
      subst (λ (r : Option Told). DrewOn k c r before after) (sym h.is)
      (routed_drew k c piece is desk before after serves (asked_of piece.call g before.shown rects) rects refl
      (ap hook_of same_call ∙ same_hook own c.call (to_origin k.screen.at) (stand_of k.screen.at c.source))
      (ap target_of same_call ∙ target_aimed own (screen_call k.screen c)) news lacks points inside h.empty h.drawn h.each h.few h.outcome h.routed)
    where
      format : (surface_of before.shown (target_of call)).format ≡ t.format
      format = ap (λ (q : Target). (surface_of before.shown q).format) (target_aimed own (screen_call k.screen c))

      source : source_held lent (held_for own targets.Screen) t ≡ source_surface st t c.source
      source = lent_source st k.screen.at t c.source alone feed_there

      news : (p : Point) (d : ℕ) → (asked_of piece.call g before.shown rects).new p d ≡ new_of st c t (moved p k.screen.at) d
      news p d =
          ap (λ (q : Given). new_of_call piece.call (operands_given q (held_in (held_of piece.call) before.shown) (surface_of before.shown (target_of piece.call)).format) p d) same_given
          ∙ ap (λ (e : DrawCall). new_of_call e (operands_given (handed call lent bits xlate k.screen.table face) (held_in (held_of e) before.shown) (surface_of before.shown (target_of e)).format) p d) same_call
          ∙ routed_new lends moves k.screen st c before.shown t there alone own lent bits xlate k.screen.table face refl (sym serves.table) source
          (mask_read st c.mask) (faces_among ∙ face_alike st c.brush) _ format p d

      lacks : (p : Point) (d : ℕ) → area_of c (moved p k.screen.at) ≡ true → piece_on k.screen c p ≡ false → new_of st c t (moved p k.screen.at) d ≡ None
      lacks p d reached none =
          untouched_there k.screen st c t alone k.screen.size (sym serves.size) p d reached none

-- the same with what the code hands over
handed_as : (call : DrawCall) (source mask : Option (Bor Surface)) (from mono : Option Surface) (x : Translation) (table : List Rgb) (face : BrushFace) →
    option_copied source ≡ from → option_copied mask ≡ mono → handed call from mono x table face ≡ handed call (option_copied source) (option_copied mask) x table face
handed_as call source mask from mono x table face e f =
    ap (λ (l : Option Surface). handed call l mono x table face) (sym e) ∙ ap (λ (b : Option Surface). handed call (option_copied source) b x table face) (sym f)

pub can_with : (call : DrawCall) (source mask : Option (Bor Surface)) {from mono : Option Surface} (x : Translation) (table : List Rgb) (face : BrushFace) {targets : Shown}
    {rects : List Rect} → option_copied source ≡ from → option_copied mask ≡ mono → CanDraw call (handed call from mono x table face) targets rects →
    CanDraw call (handed call (option_copied source) (option_copied mask) x table face) targets rects
can_with call source mask {from} {mono} x table face {targets} {rects} e f h =
    subst (λ (g : Given). CanDraw call g targets rects) (handed_as call source mask from mono x table face e f) h

pub routed_with : (call : DrawCall) (source mask : Option (Bor Surface)) {from mono : Option Surface} (x : Translation) (table : List Rgb) (face : BrushFace)
    {before after : PortState} {rects : List Rect} {told : Option Told} → option_copied source ≡ from → option_copied mask ≡ mono →
    IsRouted (asked_of call (handed call (option_copied source) (option_copied mask) x table face) before.shown rects) before after told →
    IsRouted (asked_of call (handed call from mono x table face) before.shown rects) before after told
routed_with call source mask {from} {mono} x table face {before} {after} {rects} {told} e f h =
    subst (λ (g : Given). IsRouted (asked_of call g before.shown rects) before after told) (sym (handed_as call source mask from mono x table face e f)) h

-- a brush that wasn't made is of one colour
pub plain_face : (brushes : List BrushFace) (use_of : BrushUse) → ((n : ℕ) → use_of ≡ uses.Made n → ⊥) → face_among brushes use_of ≡ faces.Solid (plain_colour use_of)
plain_face brushes uses.Nothing other = refl
plain_face brushes (uses.Colour colour) other = refl
plain_face brushes (uses.Made n) other = absurd (other n refl)

pub face_routed : {before after : PortState} {rects : List Rect} {told : Option Told} (h : Handed) (f g : BrushFace) → f ≡ g →
    IsRouted (asked_of h.call.now (handed_with h f) before.shown rects) before after told →
    IsRouted (asked_of h.call.now (handed_with h g) before.shown rects) before after told
face_routed {before} {after} {rects} {told} h f g e routed =
    subst (λ (x : BrushFace). IsRouted (asked_of h.call.now (handed_with h x) before.shown rects) before after told) e routed

-- a brush among others keeps what drivers keep in it
pub realised_set : (format : Format) (table : List Rgb) (brushes : List Brush) (n : ℕ) (b : Brush) →
    ((owner : ℕ) → IfSome (kept b owner) (IsRealised b.face format table)) →
    All (λ (x : Brush). (owner : ℕ) → IfSome (kept x owner) (IsRealised x.face format table)) brushes →
    All (λ (x : Brush). (owner : ℕ) → IfSome (kept x owner) (IsRealised x.face format table)) (set brushes n b)
realised_set format table brushes n b h each =
    All-set (λ (x : Brush). (owner : ℕ) → IfSome (kept x owner) (IsRealised x.face format table)) brushes n b h each
