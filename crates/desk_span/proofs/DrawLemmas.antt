-- What was drawn in a clip, where the call's frame on the surface is what the clip lies in.
use Rattle.std.proofs.Common.{◌≡◌, ℕ, pos, ◌*◌, ◌-ℤ◌, Bool, true, false, ◌&&◌, List, length, Some, None, Bor, Option, Result, Ok, Err}
use Rattle.std.proofs.Common.{refl, sym, ap, ◌∙◌, arith}
use Rattle.std.specs.Prelude.{OnErr, unwrap_or, option_map, if◌then◌else◌}
use Rattle.std.proofs.lemmas.Int.{ints}
use Rattle.std.specs.Option.{option_copied}
use Rattle.std.proofs.lemmas.Bool.{and_parts, false_from_ne_true}
use Rattle.geom_base.specs.declared.point.Point.{Point}
use Rattle.geom_base.specs.declared.rect.Rect.{Rect}
use Rattle.geom_base.specs.Points.{is_in, is_in_some, moved, moved_back, moved_rect, point_at, whole}
use Rattle.geom_base.specs.Step.{Area, Change}
use Rattle.geom_base.specs.StepLaws.{redrawn_none, redrawn_same}
use Rattle.geom_base.specs.declared.target.Target.{Target}
use Rattle.surf_obj.specs.Surface.{changed, Surface}
use Rattle.geom_base.specs.Grid.{value_of_point}
use Rattle.pix_format.specs.declared.rgb.Rgb.{Rgb}
use Rattle.pix_format.specs.Xlate.{translated}
use Rattle.brush_obj.specs.Brush.{tiled}
use Rattle.brush_obj.specs.Calls.{CallsLend, CallsMove, HoldsOwn, SameButSource, as_kept, held_of, lent_call, moved_call, new_of_call, new_of_copy}
use Rattle.brush_obj.specs.Calls.{source_point, target_of}
use Rattle.brush_obj.specs.declared.copy_call.CopyCall.{CopyCall}
use Rattle.brush_obj.specs.declared.draw_call.DrawCall.{DrawCall}
use Rattle.brush_obj.specs.declared.draw_call.DrawCall.TheVariants.{Blt, Copy, Paint}
use Rattle.brush_obj.specs.declared.face.BrushFace.{BrushFace}
use Rattle.clip_obj.specs.Clip.{allows, to_origin}
use Rattle.script_orders.specs.Rows.{zero_point}
use Rattle.script_orders.specs.declared.desk_command.DeskCommand.{DeskCommand}
use Rattle.script_orders.specs.declared.desk_command.Feed.{Feed}
use Rattle.script_orders.specs.declared.desk_command.Feed.TheVariants as feeds
use Rattle.script_orders.specs.declared.desk_command.Feed.TheVariants.{Row}
use Rattle.desk_span.specs.Desk.{State, bitmap_at, face_of, in_clip, kept_by, mask_surface, new_of, operands_of, row_like, shown_by, source_at, translation}
use Rattle.desk_span.specs.InnerBeside.{IsAlone, IsSeenAs, stand_of, source_surface}
use Rattle.desk_span.specs.InnerDrawing.{held_for, holding, operands_with, source_held}
use Rattle.desk_span.specs.InnerRows.{row_operands}
use Rattle.desk_span.specs.declared.inputs.PaneInputs.{PaneInputs}
use Rattle.desk_span.specs.InnerFrames.{LetsThrough}
use Rattle.desk_span.proofs.FrameLemmas.{IsFrameOf, frame_back, is_in_seen, on_surface, there_and_back}

pub allows-in_clip : (clip : Option (Bor (List Rect))) (p : Point) → allows clip p ≡ in_clip (option_copied clip) p
allows-in_clip (Some rects) p = refl
allows-in_clip None p = refl

module _ (t : Surface) (frame r : Rect) (at : Point) (new : Change) (long : length t.values ≡ t.size.w * t.size.h)
    (common : IsFrameOf frame (moved_rect r (to_origin at)) t.size) where
  -- a call without a point in the clip changes nothing
  pub drawn_none : (clip : Option (List Rect)) → (LetsThrough clip (moved_rect frame at) → ⊥) →
      t ≡ changed new (λ p. in_clip clip (moved p at) && is_in (moved p at) r) t
  drawn_none clip none =
      ap (λ (vs : List ℕ). record t { values = vs })
      (sym (redrawn_none t.size t.values (λ p. in_clip clip (moved p at) && is_in (moved p at) r) new long (λ x y hx hy. false_from_ne_true _ (λ h.
      let q = moved (point_at x y) at in
      let both = and_parts (in_clip clip q) (is_in q r) h in
      none (record {
        point = q;
        held = both.0;
        inside = in_frame (point_at x y) (sym (on_surface frame r t.size at common x y hx hy) ∙ both.1);
      })))))
    where
      in_frame : (p : Point) → is_in p frame ≡ true → is_in (moved p at) (moved_rect frame at) ≡ true
      in_frame p h = is_in_seen p at (moved_rect frame at) ∙ ap (is_in p) (frame_back frame at) ∙ h

  -- what was drawn in the rectangles of a clip
  pub drawn_clipped : (after : Surface) (clip : Option (Bor (List Rect))) (rects : List Rect) →
      ((p : Point) → is_in_some p rects ≡ (allows clip (moved p at) && is_in p (moved_rect (moved_rect frame at) (to_origin at)))) →
      after ≡ changed new (λ p. is_in_some p rects) t →
      after ≡ changed new (λ p. in_clip (option_copied clip) (moved p at) && is_in (moved p at) r) t
  drawn_clipped after clip rects shows drawn =
      drawn ∙ ap (λ (vs : List ℕ). record t { values = vs })
      (redrawn_same t.size t.values (λ p. is_in_some p rects) (λ p. in_clip (option_copied clip) (moved p at) && is_in (moved p at) r) new long (λ x y hx hy.
      let p = point_at x y in
      let q = moved p at in
      ap (λ (b : Bool). in_clip (option_copied clip) q && b) (on_surface frame r t.size at common x y hx hy)
      ∙ sym (shows p ∙ ap (λ (f : Rect). allows clip q && is_in p f) (frame_back frame at)
      ∙ ap (λ (b : Bool). b && is_in p frame) (allows-in_clip clip q))))

pub on_err : {T E P : Type 0} (r : Result T E) → P → OnErr r P
on_err (Ok x) p = tt
on_err (Err e) p = p

-- a copy of a row of values is the call with that row as its source
pub row_drawn : (s : State) (c : DeskCommand) (t after : Surface) (call : DrawCall) (copy : CopyCall) (values : List ℕ) (area : Point → Bool) →
    c.source ≡ Row values → call ≡ Copy copy → after ≡ changed (new_of_copy copy (row_operands t values c.back)) area t →
    after ≡ changed (new_of_call call (operands_of s c t)) area t
row_drawn s c t after call copy values area row is e = rw (is, row) e

-- a call that is seen from where a surface stands gives its points what the drawing gives those that they are
pub seen_call : CallsMove → (s : State) (c : DeskCommand) (t : Surface) (at : Point) (call : DrawCall) → call ≡ moved_call c.call (to_origin at) →
    ◌≡◌ {A = Change} (new_of_call call (operands_of s c t)) (λ p. new_of s c t (moved p at))
seen_call moves s c t at call e =
    ap (λ (x : DrawCall). new_of_call x (operands_of s c t)) e
    ∙ (λ i p d. (ap (λ (q : Point). new_of_call (moved_call c.call (to_origin at)) (operands_of s c t) q d) (sym (there_and_back p at))
    ∙ moves c.call (operands_of s c t) (to_origin at) (moved p at) d) i)

pub seen_drawn : CallsMove → (s : State) (c : DeskCommand) (t after : Surface) (at : Point) (call : DrawCall) (area : Area) →
    call ≡ moved_call c.call (to_origin at) → after ≡ changed (new_of_call call (operands_of s c t)) area t →
    after ≡ changed (λ p. new_of s c t (moved p at)) area t
seen_drawn moves s c t after at call area e drew = drew ∙ ap (λ (new : Change). changed new area t) (seen_call moves s c t at call e)

-- what a call on a surface draws with is what the desk gives it
kept_held : (handed : Option Surface) (held : Option Target) (t : Surface) (back : Rgb) →
    as_kept (translation (unwrap_or handed t) t back) (shown_by (source_held handed held t)) ≡ kept_by t back (source_held handed held t)
kept_held (Some s) held t back = refl
kept_held None (Some h) t back = refl
kept_held None None t back = refl

-- the source on a desk of one screen, counted from where it stands
unmoved : (p : Point) → moved_back zero_point p ≡ p
unmoved p = λ i. record {
  x = (let e : p.x -ℤ pos 0 ≡ p.x = grind (arith, ints) in e) i;
  y = (let e : p.y -ℤ pos 0 ≡ p.y = grind (arith, ints) in e) i;
}

kept_there : (b : Bool) (v : ℕ) (f : ℕ → ℕ) → option_map f (if b then Some v else None) ≡ (if b then option_map f (if b then Some v else None) else None)
kept_there true v f = refl
kept_there false v f = refl

pub source_of_one : (s : State) (t : Surface) (at : Point) (screen : Surface) (back : Rgb) → IsAlone s at screen → (feed : Feed) (p : Point) →
    kept_by t back (source_surface s t feed) (moved_back (stand_of at feed) p) ≡ source_at s t back feed p
source_of_one s t at screen back alone feeds.Nothing p = refl
source_of_one s t at screen back alone feeds.Desk p =
    let q = moved_back at p in
    rw (alone.places, alone.screens)
    (kept_there (is_in q (whole screen.size)) (value_of_point screen.size screen.values q) (translated (translation screen t back)))
source_of_one s t at screen back alone (feeds.Bitmap n) p = ap (kept_by t back (bitmap_at s n)) (unmoved p)
source_of_one s t at screen back alone (feeds.Row values) p = ap (kept_by t back (Some (row_like t values))) (unmoved p)

-- and on one of which a part of a screen is seen, or nothing
source_of_seen : (s : State) (t : Surface) (at : Point) (part : Option Surface) (back : Rgb) → IsSeenAs s at part → (feed : Feed) (p : Point) →
    kept_by t back (source_surface s t feed) (moved_back (stand_of at feed) p) ≡ source_at s t back feed p
source_of_seen s t at (Some screen) back seen feed p = source_of_one s t at screen back seen feed p
source_of_seen s t at None back seen feeds.Nothing p = refl
source_of_seen s t at None back seen feeds.Desk p = rw (seen.0, seen.1) refl
source_of_seen s t at None back seen (feeds.Bitmap n) p = ap (kept_by t back (bitmap_at s n)) (unmoved p)
source_of_seen s t at None back seen (feeds.Row values) p = ap (kept_by t back (Some (row_like t values))) (unmoved p)

module _ (lends : CallsLend) (s : State) (c : DeskCommand) (t : Surface) (at : Point) (part : Option Surface) (seen : IsSeenAs s at part) (i : PaneInputs)
    (own : Bool) (source : (target : Target) → source_held (option_copied i.source) (held_for own target) t ≡ source_surface s t c.source)
    (mask : option_copied i.mask ≡ mask_surface s c.mask) (brush : i.brush.now.face ≡ face_of s c.brush) (back : i.back ≡ c.back) where
  abbrev pub from : Point
  from = stand_of at c.source

  given : (target : Target) → as_kept (translation (unwrap_or (option_copied i.source) t) t i.back)
      (shown_by (source_held (option_copied i.source) (held_for own target) t)) ≡ kept_by t c.back (source_surface s t c.source)
  given target =
      kept_held (option_copied i.source) (held_for own target) t i.back
      ∙ ap (kept_by t i.back) (source target) ∙ ap (λ (b : Rgb). kept_by t b (source_surface s t c.source)) back

  alike : (call : DrawCall) (target : Target) (p : Point) →
      SameButSource call from (operands_of s c t) (operands_with t (held_for own target) i) p
  alike call target p = record {
    source = λ reads. ap (λ (kept : Point → Option ℕ). kept (moved_back from (source_point call p))) (given target)
        ∙ source_of_seen s t at part c.back seen c.source (source_point call p);
    mask = ap shown_by mask;
    pattern = ap (λ (face : BrushFace). tiled face t.format t.table) brush;
    format = refl;
  }

  -- a call whose source is lent from where it stands gives each point what the desk's call does
  pub drawn_beside : (call : DrawCall) →
      new_of_call (holding own (lent_call call from)) (operands_with t (held_of (holding own (lent_call call from))) i) ≡ new_of_call call (operands_of s c t)
  drawn_beside (Blt b) = λ k p d. lends (Blt b) from (operands_of s c t) (operands_with t (held_for own b.target) i) p d (alike (Blt b) b.target p) k
  drawn_beside (Copy b) = λ k p d. lends (Copy b) from (operands_of s c t) (operands_with t (held_for own b.target) i) p d (alike (Copy b) b.target p) k
  drawn_beside (Paint b) = rw brush refl

-- the call holds no source, or its own target
pub holds_own : (own : Bool) (call : DrawCall) → HoldsOwn (held_of (holding own call)) (target_of (holding own call))
holds_own true (Blt b) = refl
holds_own false (Blt b) = tt
holds_own true (Copy b) = refl
holds_own false (Copy b) = tt
holds_own own (Paint b) = tt
