-- What a drawing on a bitmap sees of a screen is what it has of it.
use Rattle.std.proofs.Common.{◌≡◌, ◌∙◌, ℕ, ℤ, pos, ◌≤ℤ◌, ◌+ℤ◌, ◌-ℤ◌, true, IsTrue, List, Option, Some, None, refl, sym, ap, arith, true≢false, FitsSigned, w32}
use Rattle.std.specs.Cmp.Derive.{both_true}
use Rattle.std.specs.Prelude.{option_map, slice_get}
use Rattle.std.proofs.lemmas.Bool.{and_parts}
use Rattle.std.proofs.lemmas.Int.{ints}
use Rattle.geom_base.specs.declared.point.Point.{Point}
use Rattle.geom_base.specs.declared.rect.Rect.{Rect}
use Rattle.geom_base.specs.declared.size.Size.{Size}
use Rattle.geom_base.specs.declared.target.Target.TheVariants.{Screen}
use Rattle.geom_base.specs.PointLaws.{is_in-IsIn}
use Rattle.geom_base.specs.Points.{IsIn, LiesIn, is_in, most_side, moved, moved_back, whole}
use Rattle.pix_format.specs.declared.rgb.Rgb.{Rgb}
use Rattle.pix_format.specs.Xlate.{translated}
use Rattle.region.specs.Window.{IsEdge}
use Rattle.surf_obj.specs.Object.{object_format}
use Rattle.surf_obj.specs.Surface.{Surface}
use Rattle.brush_obj.specs.Calls.{PointMovesBack, held_of, lent_call, reads_source, rect_of, shown, source_point, src_of}
use Rattle.brush_obj.specs.declared.draw_call.DrawCall.{DrawCall}
use Rattle.brush_obj.specs.declared.draw_call.DrawCall.TheVariants.{Blt, Copy, Paint}
use Rattle.clip_obj.specs.Clip.{to_origin}
use Rattle.copy_port.specs.Given.{held_in, picture_of, points_of}
use Rattle.copy_port.specs.State.{PortState, Shown, surface_of}
use Rattle.eng_calls.specs.Copies.{HeldFor, IsPlace, LiesOnTarget, begins_at, picture_of_copy}
use Rattle.eng_calls.specs.declared.copies.PartCopy.{PartCopy}
use Rattle.script_orders.specs.Asked.{IsSurfaceSize}
use Rattle.script_orders.specs.Places.{IsPlaced, IsStand, MayStandAt}
use Rattle.script_orders.specs.declared.desk_command.DeskCommand.{DeskCommand}
use Rattle.script_orders.specs.declared.desk_command.Feed.{Feed}
use Rattle.script_orders.specs.declared.desk_command.Feed.TheVariants as feeds
use Rattle.desk_span.specs.Desk.{State, area_of, in_clip, kept_by, source_at, translation}
use Rattle.desk_span.specs.InnerBeside.{IsAlone}
use Rattle.desk_span.specs.InnerFrames.{LetsThrough}
use Rattle.desk_span.specs.InnerPane.{shown_in}
use Rattle.desk_span.specs.InnerPieces.{aimed}
use Rattle.desk_span.specs.InnerSight.{Sees, seen_state}
use Rattle.desk_span.specs.Kept.{ScreenKept, Serves, shown_by_driver}
use Rattle.desk_span.specs.Meeting.{Reaches}
use Rattle.desk_span.specs.declared.sight.Sight.{Sight}
use Rattle.desk_span.proofs.DrawLemmas.{source_of_one}
use Rattle.desk_span.proofs.FrameLemmas.{IsFrameOf}
use Rattle.desk_span.proofs.RoutedLemmas.{shown_there}

-- a frame that lies on a surface lies on any target
pub on_target : (frame : Rect) (size : Size) → IsSurfaceSize size → LiesIn frame size → LiesOnTarget frame
on_target frame size sides h = record {
  left = h.left;
  across = h.across;
  right = omega (arith, ints, h.right, sides.most_width);
  top = h.top;
  down = h.down;
  bottom = omega (arith, ints, h.bottom, sides.most_height);
}

-- the points that a drawing reaches of a surface are those of its frame that the clip lets through
module _ (c : DeskCommand) (frame : Rect) (size : Size) (common : IsFrameOf frame (rect_of c.call) size) where
  pub met : LetsThrough c.clip frame → Reaches (area_of c) size
  met m =
      let h = (common m.point).0 ((is_in-IsIn m.point frame).0 m.inside) in
      record {
        point = m.point;
        inside = (is_in-IsIn m.point (whole size)).1 h.1;
        reached = both_true m.held ((is_in-IsIn m.point (rect_of c.call)).1 h.0);
      }

  pub in_frame : (p : Point) → IsIn p (whole size) → IsTrue (area_of c p) → IsIn p frame
  in_frame p on reached =
      let both = and_parts (in_clip c.clip p) (is_in p (rect_of c.call)) reached in
      (common p).1 ((is_in-IsIn p (rect_of c.call)).0 both.1, on)

  pub unmet : (LetsThrough c.clip frame → ⊥) → (p : Point) → IsIn p (whole size) → IsTrue (area_of c p) → ⊥
  unmet none p on reached =
      let both = and_parts (in_clip c.clip p) (is_in p (rect_of c.call)) reached in
      none (record { point = p; held = both.0; inside = (is_in-IsIn p frame).1 (in_frame p on reached) })

-- the source's point of a call whose source is counted from elsewhere
lent_point : (call : DrawCall) (at p : Point) → IsTrue (reads_source call) →
    source_point (aimed true (lent_call call at)) p ≡ moved_back at (source_point call p)
lent_point (Blt c) at p e = λ i. record {
  x = (let k : (p.x -ℤ c.rect.left) +ℤ (c.src.x -ℤ at.x) ≡ ((p.x -ℤ c.rect.left) +ℤ c.src.x) -ℤ at.x = omega (arith, ints) in k) i;
  y = (let k : (p.y -ℤ c.rect.top) +ℤ (c.src.y -ℤ at.y) ≡ ((p.y -ℤ c.rect.top) +ℤ c.src.y) -ℤ at.y = omega (arith, ints) in k) i;
}
lent_point (Copy c) at p e = λ i. record {
  x = (let k : (p.x -ℤ c.rect.left) +ℤ (c.src.x -ℤ at.x) ≡ ((p.x -ℤ c.rect.left) +ℤ c.src.x) -ℤ at.x = omega (arith, ints) in k) i;
  y = (let k : (p.y -ℤ c.rect.top) +ℤ (c.src.y -ℤ at.y) ≡ ((p.y -ℤ c.rect.top) +ℤ c.src.y) -ℤ at.y = omega (arith, ints) in k) i;
}
lent_point (Paint c) at p e = absurd (true≢false (sym e))

-- a part that stands at a corner of a screen, which stands at a point
corner_there : (corner at q : Point) → moved_back (moved corner at) q ≡ moved_back corner (moved_back at q)
corner_there corner at q = λ i. record {
  x = (let k : q.x -ℤ (corner.x +ℤ at.x) ≡ (q.x -ℤ at.x) -ℤ corner.x = omega (arith, ints) in k) i;
  y = (let k : q.y -ℤ (corner.y +ℤ at.y) ≡ (q.y -ℤ at.y) -ℤ corner.y = omega (arith, ints) in k) i;
}

kept_alike : (u a b : Surface) (back : Rgb) (x y : Option ℕ) → a.format ≡ b.format → a.table ≡ b.table → x ≡ y →
    option_map (translated (translation a u back)) x ≡ option_map (translated (translation b u back)) y
kept_alike u a b back x y formats tables same =
    λ i. option_map (translated (record { from = formats i; from_table = tables i; to = u.format; to_table = u.table; back = back })) (same i)

-- a part that is held of a screen has the points that a call reads of it
held_points : (call : DrawCall) (at : Point) (frame : Rect) (targets : Shown) (t : Surface) → targets Screen ≡ Some t → (part : Option PartCopy) →
    HeldFor (held_of (aimed true (lent_call call at))) (aimed true (lent_call call at)) targets frame part → IsTrue (reads_source call) →
    (p : Point) → IsIn p frame →
    points_of (option_map picture_of_copy part) (moved_back (begins_at part) (moved_back at (source_point call p))) ≡
    shown t.size t.values (moved_back at (source_point call p))
held_points (Blt c) at frame targets t there part h reads p on =
    let e = lent_point (Blt c) at p reads in
    ap (λ (q : Point). points_of (option_map picture_of_copy part) (moved_back (begins_at part) q)) (sym e) ∙ h.points reads p on
    ∙ ap (points_of (held_in (Some Screen) targets)) e
    ∙ ap (λ (o : Option Surface). points_of (option_map picture_of o) (moved_back at (source_point (Blt c) p))) there
held_points (Copy c) at frame targets t there part h reads p on =
    let e = lent_point (Copy c) at p reads in
    ap (λ (q : Point). points_of (option_map picture_of_copy part) (moved_back (begins_at part) q)) (sym e) ∙ h.points reads p on
    ∙ ap (points_of (held_in (Some Screen) targets)) e
    ∙ ap (λ (o : Option Surface). points_of (option_map picture_of o) (moved_back at (source_point (Copy c) p))) there
held_points (Paint c) at frame targets t there part h reads p on = absurd (true≢false (sym reads))

held_format : (call : DrawCall) (at : Point) (frame : Rect) (targets : Shown) (copy : PartCopy) →
    HeldFor (held_of (aimed true (lent_call call at))) (aimed true (lent_call call at)) targets frame (Some copy) →
    (object_format copy.pixels ≡ (surface_of targets Screen).format) × IsPlace copy.corner
held_format (Blt c) at frame targets copy h = (h.format, h.place)
held_format (Copy c) at frame targets copy h = (h.format, h.place)
held_format (Paint c) at frame targets copy h = absurd (cc)

-- the source's point, counted from where a part stands
place_there : (z corner at : ℤ) → IsEdge z → (pos 0 ≤ℤ corner) × (corner ≤ℤ pos most_side) → IsStand at → FitsSigned w32 (z -ℤ (corner +ℤ at))
place_there z corner at e (low, high) h = grind (arith, ints, e.least, e.greatest, h.0, h.1)

source_stands : (call : DrawCall) (corner at : Point) → IsPlaced call → IsPlace corner → MayStandAt at → PointMovesBack (src_of call) (moved corner at)
source_stands (Blt c) corner at (rect, src, mask, origin) h k = record {
  across = place_there c.src.x corner.x at.x src.across h.column k.0;
  down = place_there c.src.y corner.y at.y src.down h.row k.1;
}
source_stands (Copy c) corner at (rect, src) h k = record {
  across = place_there c.src.x corner.x at.x src.across h.column k.0;
  down = place_there c.src.y corner.y at.y src.down h.row k.1;
}
source_stands (Paint c) corner at (rect, origin) h k = record { across = zero_there corner.x at.x h.column k.0; down = zero_there corner.y at.y h.row k.1 }
  where
    zero_there : (corner at : ℤ) → (pos 0 ≤ℤ corner) × (corner ≤ℤ pos most_side) → IsStand at → FitsSigned w32 (pos 0 -ℤ (corner +ℤ at))
    zero_there corner at (low, high) h = grind (arith, ints, h.0, h.1)

-- what is seen is enough where the clip lets nothing through
pub nothing_sees : (c : DeskCommand) (frame : Rect) (size : Size) → IsFrameOf frame (rect_of c.call) size → (LetsThrough c.clip frame → ⊥) → (sight : Sight) →
    (s : State) → Sees s c size sight
nothing_sees c frame size common none sight s = record { finds = λ t p on reached reads. absurd (unmet c frame size common none p on reached) }

module _ (c : DeskCommand) (frame : Rect) (size : Size) (common : IsFrameOf frame (rect_of c.call) size) (desk : c.source ≡ feeds.Desk) (w : ScreenKept)
    (driver : PortState) (serves : Serves w driver) where
  abbrev t : Surface
  t = shown_by_driver driver

  there : driver.shown Screen ≡ Some t
  there = shown_there driver.shown serves.alive

  on_desk : (s : State) (where_at : Point) (screen : Surface) → IsAlone s where_at screen → (u : Surface) (q : Point) →
      source_at s u c.back c.source q ≡ option_map (translated (translation screen u c.back)) (shown screen.size screen.values (moved_back where_at q))
  on_desk s where_at screen alone u q =
      ap (λ (feed : Feed). source_at s u c.back feed q) desk ∙ sym (source_of_one s u where_at screen c.back alone feeds.Desk q)
      ∙ ap (λ (screens : List Surface). kept_by u c.back (slice_get screens 0) (moved_back where_at q)) alone.screens

  -- where the part that is held is seen
  pub part_sees : (copy : PartCopy) → HeldFor (held_of (aimed true (lent_call c.call w.at))) (aimed true (lent_call c.call w.at)) driver.shown frame (Some copy) →
      (s : State) → IsAlone s w.at t → Sees s c size (record { part = Some (shown_in copy.pixels w.table); at = moved copy.corner w.at })
  part_sees copy held s alone = record {
    finds = λ u p on reached reads.
        let part = shown_in copy.pixels w.table in
        let q = source_point c.call p in
        let format = (held_format c.call w.at frame driver.shown copy held).0 in
        on_desk (seen_state s (Some part) (moved copy.corner w.at)) (moved copy.corner w.at) part (record { places = refl; screens = refl }) u q
        ∙ kept_alike u part t c.back _ _ format (sym serves.table)
        (ap (shown part.size part.values) (corner_there copy.corner w.at q)
        ∙ held_points c.call w.at frame driver.shown t there (Some copy) held reads p (in_frame c frame size common p on reached))
        ∙ sym (on_desk s w.at t alone u q);
  }

  -- and where none is held, since none is read
  pub none_sees : HeldFor (held_of (aimed true (lent_call c.call w.at))) (aimed true (lent_call c.call w.at)) driver.shown frame None → (stand : Point) →
      (s : State) → IsAlone s w.at t → Sees s c size (record { part = None; at = stand })
  none_sees held stand s alone = record {
    finds = λ u p on reached reads.
        let q = source_point c.call p in
        ap (λ (feed : Feed). source_at (seen_state s None stand) u c.back feed q) desk
        ∙ ap (option_map (translated (translation t u c.back)))
        (held_points c.call w.at frame driver.shown t there None held reads p (in_frame c frame size common p on reached))
        ∙ sym (on_desk s w.at t alone u q);
  }

  -- the part stands where the drawing can count its source's points from
  pub part_stands : (copy : PartCopy) → HeldFor (held_of (aimed true (lent_call c.call w.at))) (aimed true (lent_call c.call w.at)) driver.shown frame (Some copy) →
      IsPlaced c.call → MayStandAt w.at → PointMovesBack (src_of c.call) (moved copy.corner w.at)
  part_stands copy held places h = source_stands c.call copy.corner w.at places (held_format c.call w.at frame driver.shown copy held).1 h

  pub part_format : (copy : PartCopy) → HeldFor (held_of (aimed true (lent_call c.call w.at))) (aimed true (lent_call c.call w.at)) driver.shown frame (Some copy) →
      (object_format copy.pixels ≡ w.format) × IsPlace copy.corner
  part_format copy held = let h = held_format c.call w.at frame driver.shown copy held in (h.0 ∙ serves.format, h.1)

-- a drawing whose source isn't the desk sees enough of it
pub others_see : (c : DeskCommand) (size : Size) (sight : Sight) → (c.source ≡ feeds.Desk → ⊥) → (s : State) → Sees s c size sight
others_see c size sight other s = record { finds = λ t p on reached reads. alike sight.part c.source other t c.back (source_point c.call p) }
  where
    alike : (part : Option Surface) (feed : Feed) → (feed ≡ feeds.Desk → ⊥) → (t : Surface) (back : Rgb) (q : Point) →
        source_at (seen_state s part sight.at) t back feed q ≡ source_at s t back feed q
    alike (Some part) feeds.Nothing other t back q = refl
    alike None feeds.Nothing other t back q = refl
    alike part feeds.Desk other t back q = absurd (other refl)
    alike (Some part) (feeds.Bitmap n) other t back q = refl
    alike None (feeds.Bitmap n) other t back q = refl
    alike (Some part) (feeds.Row values) other t back q = refl
    alike None (feeds.Row values) other t back q = refl

-- where the copy of a part stands, as it is computed
pub stands_as : (corner at : Point) → moved_back (to_origin at) corner ≡ moved corner at
stands_as corner at = λ i. record {
  x = (let k : corner.x -ℤ (pos 0 -ℤ at.x) ≡ corner.x +ℤ at.x = omega (arith, ints) in k) i;
  y = (let k : corner.y -ℤ (pos 0 -ℤ at.y) ≡ corner.y +ℤ at.y = omega (arith, ints) in k) i;
}
