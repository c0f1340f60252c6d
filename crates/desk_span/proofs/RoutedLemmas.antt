-- What a screen shows after a drawing that its driver, or the engine, drew in the clip.
use Rattle.std.proofs.Common.{◌≡◌, ◌≢◌, ◌∙◌, ℕ, zero, suc, ◌*◌, ◌<◌, Bool, true, false, ◌&&◌, IsTrue, List, [], ◌∷◌, length, Option, Some, None, refl, sym, ap, subst, arith, true≢false}
use Rattle.std.specs.Prelude.{if◌then◌else◌, cond, is_some, option_map, unwrap_or, IfSome}
use Rattle.std.specs.List.{All}
use Rattle.std.specs.Option.{option_to_list}
use Rattle.std.specs.Cmp.Derive.{both_true}
use Rattle.std.proofs.lemmas.Option.{none-some, same_Some}
use Rattle.std.proofs.lemmas.Bool.{and_parts}
use Rattle.std.proofs.lemmas.Int.{ints}
use Rattle.geom_base.specs.declared.point.Point.{Point}
use Rattle.geom_base.specs.declared.size.Size.{Size}
use Rattle.geom_base.specs.declared.target.Target.{Target}
use Rattle.geom_base.specs.declared.target.Target.TheVariants.{Screen, Bitmap}
use Rattle.geom_base.specs.Grid.{value_at}
use Rattle.geom_base.specs.declared.rect.Rect.{Rect}
use Rattle.geom_base.specs.Drawn.{Drawn}
use Rattle.geom_base.specs.PointLaws.{first_is_in, is_in-IsIn}
use Rattle.geom_base.specs.Points.{HasPoints, IsIn, corner_of, is_in, is_in_some, moved, moved_back, point_at, whole}
use Rattle.geom_base.specs.Step.{Area, Change}
use Rattle.geom_base.specs.StepLaws.{redrawn_grid}
use Rattle.pix_format.specs.declared.format.Format.{Format}
use Rattle.pix_format.specs.declared.rgb.Rgb.{Rgb}
use Rattle.pix_format.specs.Xlate.{Translation}
use Rattle.surf_obj.specs.Surface.{Surface, changed}
use Rattle.brush_obj.specs.Brush.{tiled}
use Rattle.brush_obj.specs.CallLaws.{copy-none}
use Rattle.brush_obj.specs.Calls.{CallsLend, CallsMove, Operands, SameButSource, as_kept, blt_operands, held_of, lent_call, moved_call, new_of_call}
use Rattle.brush_obj.specs.Calls.{reads_source, source_point}
use Rattle.brush_obj.specs.declared.draw_call.DrawCall.{DrawCall}
use Rattle.brush_obj.specs.declared.draw_call.DrawCall.TheVariants.{Blt, Copy, Paint}
use Rattle.brush_obj.specs.declared.face.BrushFace.{BrushFace}
use Rattle.clip_obj.specs.Clip.{to_origin}
use Rattle.copy_port.specs.Classes.{hook_of}
use Rattle.copy_port.specs.Given.{Asked, Picture, first_of, held_in, operands_given, picture_of, points_of}
use Rattle.copy_port.specs.State.{IsLive, PortState, Rest, Shown, drawn_on, surface_of}
use Rattle.copy_port.specs.declared.hooks.Hook.{Hook}
use Rattle.hook_route.specs.Routes.{Asking, CountsAsking, HasCause as RouteCause, Routed, WasAsked}
use Rattle.hook_route.specs.declared.outcome.Cause.TheVariants.{Fault, Memory}
use Rattle.hook_route.specs.declared.outcome.Outcome.{Outcome}
use Rattle.hook_route.specs.declared.outcome.Outcome.TheVariants as outcomes
use Rattle.script_orders.specs.declared.desk_command.DeskCommand.{DeskCommand}
use Rattle.script_orders.specs.declared.desk_command.Feed.{Feed}
use Rattle.script_orders.specs.declared.desk_command.Feed.TheVariants as feeds
use Rattle.desk_span.specs.Desk.{State, area_of, face_of, kept_by, mask_surface, new_of, operands_of, shown_by, source_at, translation}
use Rattle.desk_span.specs.InnerBeside.{IsAlone, source_surface, stand_of}
use Rattle.desk_span.specs.InnerDrawing.{held_for, source_held}
use Rattle.desk_span.specs.InnerPieces.{aimed, piece_on, screen_call}
use Rattle.script_orders.specs.declared.named.Named.TheVariants as named
use Rattle.script_orders.specs.declared.script_command.ScriptCommand.TheVariants as asked
use Rattle.desk_span.specs.Drives.{Drives, HasCause, IsDeclined, IsOffer, rises}
use Rattle.desk_span.specs.InnerRouted.{handed, routed_report}
use Rattle.desk_span.specs.Kept.{ScreenKept}
use Rattle.desk_span.specs.Pieces.{HasPiece, is_desk}
use Rattle.desk_span.specs.Reports.{Told, report_on}
use Rattle.desk_span.proofs.DrawLemmas.{seen_call, source_of_one}

-- two changes of a surface that agree in the points of it: where only one of them draws it leaves the point untouched
agree : (a b : Bool) (f g : Option ℕ) (d : ℕ) → (a ≡ true → (b ≡ true) × (f ≡ g)) → (a ≡ false → b ≡ true → g ≡ None) →
    cond a (unwrap_or f d) d ≡ cond b (unwrap_or g d) d
agree true b f g d here there = let h = here refl in rw (h.0, h.1) refl
agree false true f g d here there = rw (there refl refl) refl
agree false false f g d here there = refl

pub same_change : (t : Surface) (new new' : Change) (a a' : Area) → length t.values ≡ t.size.w * t.size.h →
    ((x y : ℕ) → x < t.size.w → y < t.size.h → a (point_at x y) ≡ true → (a' (point_at x y) ≡ true) × ((d : ℕ) → new (point_at x y) d ≡ new' (point_at x y) d)) →
    ((x y : ℕ) → x < t.size.w → y < t.size.h → a (point_at x y) ≡ false → a' (point_at x y) ≡ true → (d : ℕ) → new' (point_at x y) d ≡ None) →
    changed new a t ≡ changed new' a' t
same_change t new new' a a' long here there =
    ap (λ (vs : List ℕ). record t { values = vs }) (redrawn_grid t.size t.values a a' new new' long (λ x y hx hy.
    let p = point_at x y in
    let d = value_at t.size t.values x y in
    agree (a p) (a' p) (new p d) (new' p d) d (λ e. let h = here x y hx hy e in (h.0, h.1 d)) (λ e e'. there x y hx hy e e' d)))

-- and so do two drawings on a target that is shown
pub same_drawing : (shown : Shown) (new new' : Change) (a a' : Area) → IsLive shown Screen →
    changed new a (surface_of shown Screen) ≡ changed new' a' (surface_of shown Screen) → drawn_on Screen new a shown ≡ drawn_on Screen new' a' shown
same_drawing shown new new' a a' live e = λ i q. on q i
  where
    there : (o : Option Surface) → IsTrue (is_some o) → changed new a (unwrap_or o (surface_of (λ q. None) Screen)) ≡
        changed new' a' (unwrap_or o (surface_of (λ q. None) Screen)) → option_map (changed new a) o ≡ option_map (changed new' a') o
    there (Some t) h k = ap (λ (u : Surface). Some u) k
    there None h k = absurd (true≢false (sym h))

    on : (q : Target) → drawn_on Screen new a shown q ≡ drawn_on Screen new' a' shown q
    on Screen = there (shown Screen) live e
    on (Bitmap n) = refl

-- what any call gets of what it is handed
handed_all : (call : DrawCall) (source mask : Option Surface) (xlate : Translation) (table : List Rgb) (face : BrushFace) (held : Option Picture)
    (format : Format) → new_of_call call (operands_given (handed call source mask xlate table face) held format) ≡
    new_of_call call (blt_operands (points_of (first_of (option_map picture_of source) held)) (points_of (option_map picture_of mask)) xlate
    (tiled face format table) format)
handed_all (Blt c) source mask xlate table face held format = refl
handed_all (Copy c) source mask xlate table face held format = refl
handed_all (Paint c) source mask xlate table face held format = refl

aimed_alike : (own : Bool) (call : DrawCall) (o : Operands) → new_of_call (aimed own call) o ≡ new_of_call call o
aimed_alike own (Blt c) o = refl
aimed_alike own (Copy c) o = refl
aimed_alike own (Paint c) o = refl

mask_points : (o : Option Surface) → points_of (option_map picture_of o) ≡ shown_by o
mask_points (Some s) = refl
mask_points None = refl

live_surface : (o : Option Surface) (other : Surface) → IsTrue (is_some o) → o ≡ Some (unwrap_or o other)
live_surface (Some t) other h = refl
live_surface None other h = absurd (true≢false (sym h))

-- a target that is shown is there
pub shown_there : (shown : Shown) → IsLive shown Screen → shown Screen ≡ Some (surface_of shown Screen)
shown_there shown live = live_surface (shown Screen) _ live

-- the source that a call is handed, or holds
given_source : (lent : Option Surface) (own : Bool) (shown : Shown) (t : Surface) (back : Rgb) → shown Screen ≡ Some t →
    as_kept (translation (unwrap_or lent t) t back) (points_of (first_of (option_map picture_of lent) (held_in (held_for own Screen) shown))) ≡
    kept_by t back (source_held lent (held_for own Screen) t)
given_source (Some u) own shown t back there = refl
given_source None true shown t back there = rw there refl
given_source None false shown t back there = refl

-- without a source that it reads a call leaves a point untouched
no_source : (call : DrawCall) (o : Operands) (p : Point) (d : ℕ) → reads_source call ≡ true → o.source (source_point call p) ≡ None →
    new_of_call call o p d ≡ None
no_source (Blt b) o p d reads none = rw (reads, none) refl
no_source (Copy b) o p d reads none = copy-none b o p d none
no_source (Paint b) o p d reads none = absurd (true≢false (sym reads))

-- a point of the desk that its one screen lacks has no value
off_desk : (s : State) (at : Point) (t : Surface) (back : Rgb) (feed : Feed) (p : Point) → IsAlone s at t → is_desk feed ≡ true →
    is_in (moved_back at p) (whole t.size) ≡ false → source_at s t back feed p ≡ None
off_desk s at t back feeds.Nothing p alone desk off = refl
off_desk s at t back feeds.Desk p alone desk off = rw (alone.places, alone.screens, off) refl
off_desk s at t back (feeds.Bitmap n) p alone desk off = absurd (true≢false (sym desk))
off_desk s at t back (feeds.Row values) p alone desk off = absurd (true≢false (sym desk))

lacking : (area reads desk found : Bool) → area ≡ true → (area && (if reads && desk then found else true)) ≡ false →
    (reads ≡ true) × (desk ≡ true) × (found ≡ false)
lacking true true true false e f = (refl, refl, refl)
lacking true true true true e f = absurd (true≢false f)
lacking true true false found e f = absurd (true≢false f)
lacking true false desk found e f = absurd (true≢false f)
lacking false reads desk found e f = absurd (true≢false (sym e))

module _ (lends : CallsLend) (moves : CallsMove) (w : ScreenKept) (s : State) (c : DeskCommand) (shown : Shown) (t : Surface) (there : shown Screen ≡ Some t)
    (alone : IsAlone s w.at t) (own : Bool) (lent mask : Option Surface) (xlate : Translation) (table : List Rgb) (face : BrushFace)
    (xlates : xlate ≡ translation (unwrap_or lent t) t c.back) (tables : table ≡ t.table)
    (source : source_held lent (held_for own Screen) t ≡ source_surface s t c.source) (masks : mask ≡ mask_surface s c.mask)
    (faces : face ≡ face_of s c.brush) where
  abbrev from : Point
  from = stand_of w.at c.source

  abbrev seen : DrawCall
  seen = moved_call c.call (to_origin w.at)

  abbrev given : Option Picture → Operands
  given held =
      blt_operands (points_of (first_of (option_map picture_of lent) held)) (points_of (option_map picture_of mask)) xlate (tiled face t.format table) t.format

  abbrev held : Option Picture
  held = held_in (held_for own Screen) shown

  source_given : (given held).source ≡ kept_by t c.back (source_surface s t c.source)
  source_given =
      ap (λ (x : Translation). as_kept x (points_of (first_of (option_map picture_of lent) held))) xlates
      ∙ given_source lent own shown t c.back there ∙ ap (kept_by t c.back) source

  alike : (p : Point) → SameButSource seen from (operands_of s c t) (given held) p
  alike p = record {
    source = λ reads. ap (λ (kept : Point → Option ℕ). kept (moved_back from (source_point seen p))) source_given
        ∙ source_of_one s t w.at t c.back alone c.source (source_point seen p);
    mask = mask_points mask ∙ ap shown_by masks;
    pattern = ap (λ (colours : List Rgb). tiled face t.format colours) tables ∙ ap (λ (f : BrushFace). tiled f t.format t.table) faces;
    format = refl;
  }

  held_alike : (call : DrawCall) →
      new_of_call (aimed own (lent_call (moved_call call (to_origin w.at)) from))
      (given (held_in (held_of (aimed own (lent_call (moved_call call (to_origin w.at)) from))) shown)) ≡
      new_of_call (lent_call (moved_call call (to_origin w.at)) from) (given held)
  held_alike (Blt b) = refl
  held_alike (Copy b) = refl
  held_alike (Paint b) = refl

  -- what the screen's call gives a point is what the drawing gives it
  pub routed_new : (format : Format) → format ≡ t.format → (p : Point) (d : ℕ) →
      new_of_call (aimed own (screen_call w c)) (operands_given (handed (aimed own (screen_call w c)) lent mask xlate table face)
      (held_in (held_of (aimed own (screen_call w c))) shown) format) p d ≡ new_of s c t (moved p w.at) d
  routed_new format e p d =
      ap (λ (f : Format). new_of_call (aimed own (screen_call w c)) (operands_given (handed (aimed own (screen_call w c)) lent mask xlate table face)
      (held_in (held_of (aimed own (screen_call w c))) shown) f) p d) e
      ∙ ap (λ (new : Change). new p d)
      (handed_all (aimed own (screen_call w c)) lent mask xlate table face (held_in (held_of (aimed own (screen_call w c))) shown) t.format ∙ held_alike c.call)
      ∙ lends seen from (operands_of s c t) (given held) p d (alike p)
      ∙ ap (λ (new : Change). new p d) (seen_call moves s c t w.at seen refl)

-- a point of the area that is in no piece is untouched
pub untouched_there : (w : ScreenKept) (s : State) (c : DeskCommand) (t : Surface) → IsAlone s w.at t → (size : Size) → size ≡ t.size → (p : Point) (d : ℕ) →
    area_of c (moved p w.at) ≡ true →
    (area_of c (moved p w.at) && (if reads_source c.call && is_desk c.source then is_in (moved_back w.at (source_point c.call (moved p w.at))) (whole size) else true)) ≡ false →
    new_of s c t (moved p w.at) d ≡ None
untouched_there w s c t alone size e p d reached none =
    let q = moved p w.at in
    let l = lacking (area_of c q) (reads_source c.call) (is_desk c.source) (is_in (moved_back w.at (source_point c.call q)) (whole size)) reached none in
    no_source c.call (operands_of s c t) q d l.0
    (off_desk s w.at t c.back c.source (source_point c.call q) alone l.1
    (ap (λ (z : Size). is_in (moved_back w.at (source_point c.call q)) (whole z)) (sym e) ∙ l.2))

-- the points that were drawn are those that the drawing reaches, or that are reported of them
module _ (before : PortState) (w : ScreenKept) (c : DeskCommand) (new new' : Change) (rects : List Rect) (live : IsLive before.shown Screen)
    (size : w.size ≡ (surface_of before.shown Screen).size)
    (clip : (p : Point) → IsIn p (whole w.size) → is_in_some p rects ≡ piece_on w c p) (news : (p : Point) (d : ℕ) → new p d ≡ new' p d)
    (lacks : (p : Point) (d : ℕ) → area_of c (moved p w.at) ≡ true → piece_on w c p ≡ false → new' p d ≡ None) where
  abbrev t : Surface
  t = surface_of before.shown Screen

  on_it : (x y : ℕ) → x < t.size.w → y < t.size.h → IsIn (point_at x y) (whole w.size)
  on_it x y hx hy = subst (λ (z : Size). IsIn (point_at x y) (whole z)) (sym size) (record {
    from_left = omega (arith, ints);
    to_right = omega (arith, ints, hx);
    from_top = omega (arith, ints);
    to_bottom = omega (arith, ints, hy);
  })

  reaches_in : (p : Point) → IsIn p (whole w.size) → is_in_some p rects ≡ true → area_of c (moved p w.at) ≡ true
  reaches_in p on h = (and_parts (area_of c (moved p w.at)) _ (sym (clip p on) ∙ h)).0

  pub all_shown : drawn_on Screen new (λ p. is_in_some p rects) before.shown ≡ drawn_on Screen new' (λ p. true && area_of c (moved p w.at)) before.shown
  all_shown =
      same_drawing before.shown new new' (λ p. is_in_some p rects) (λ p. true && area_of c (moved p w.at)) live
      (same_change t new new' (λ p. is_in_some p rects) (λ p. true && area_of c (moved p w.at)) (before.sound Screen live).count
      (λ x y hx hy h. (reaches_in (point_at x y) (on_it x y hx hy) h, λ d. news (point_at x y) d))
      (λ x y hx hy none reached d. lacks (point_at x y) d reached (sym (clip (point_at x y) (on_it x y hx hy)) ∙ none)))

  pub part_shown : (more : Area) (drawn : List Rect) → ((p : Point) → is_in_some p drawn ≡ more p) → ((p : Point) → IsTrue (more p) → IsTrue (is_in_some p rects)) →
      drawn_on Screen new more before.shown ≡ drawn_on Screen new' (λ p. is_in_some p drawn && area_of c (moved p w.at)) before.shown
  part_shown more drawn points within =
      same_drawing before.shown new new' more (λ p. is_in_some p drawn && area_of c (moved p w.at)) live
      (same_change t new new' more (λ p. is_in_some p drawn && area_of c (moved p w.at)) (before.sound Screen live).count
      (λ x y hx hy h. let p = point_at x y in (both_true (points p ∙ h) (reaches_in p (on_it x y hx hy) (within p h)), λ d. news p d))
      (λ x y hx hy none both d. let p = point_at x y in
      absurd (true≢false (sym (and_parts (is_in_some p drawn) _ both).0 ∙ points p ∙ none))))

-- a list of rectangles with points in which no point lies is empty
no_rects : (rects : List Rect) → All HasPoints rects → ((p : Point) → is_in_some p rects ≡ false) → rects ≡ []
no_rects [] h none = refl
no_rects (r ∷ rects) h none =
    let first = h 0 r (omega arith) in
    absurd (true≢false (sym (in_first r rects (is_in (corner_of r) r) ((is_in-IsIn (corner_of r) r).1 (first_is_in r first.across first.down))) ∙ none (corner_of r)))
  where
    in_first : (r : Rect) (rects : List Rect) (b : Bool) → is_in (corner_of r) r ≡ true → is_in_some (corner_of r) (r ∷ rects) ≡ true
    in_first r rects b e = rw e refl

-- a call that was offered to no hook: nothing was drawn, or the driver doesn't hook it
never_asked : (hooked : Bool) (piece : Type 0) (more : Area) (outcome : Outcome) (rects : List Rect) → WasAsked hooked None more outcome →
    ((p : Point) → is_in_some p rects ≡ more p) → All HasPoints rects → IsOffer hooked piece (routed_report outcome rects) 0
never_asked true piece more outcomes.All rects was points each = absurd (true≢false (sym was))
never_asked false piece more outcomes.All rects was points each = record {
  most = omega arith;
  hooked_only = λ e. refl;
  piece_only = λ e. refl;
  whole = λ e t p. absurd (true≢false (sym t));
  part = tt;
}
never_asked true piece more (outcomes.Part cause) rects was points each = record {
  most = omega arith;
  hooked_only = λ e. refl;
  piece_only = λ e. refl;
  whole = λ e t p. absurd (none-some _ (sym e));
  part = λ drawn t. absurd (drawn (no_rects rects each (λ p. points p ∙ was refl p)));
}
never_asked false piece more (outcomes.Part cause) rects was points each = record {
  most = omega arith;
  hooked_only = λ e. refl;
  piece_only = λ e. refl;
  whole = λ e t p. absurd (none-some _ (sym e));
  part = λ drawn t. absurd (true≢false (sym t));
}

-- a call that was offered to a hook
was_asked : (hooked refused : Bool) (piece : Type 0) (more : Area) (outcome : Outcome) (rects : List Rect) → WasAsked hooked (Some refused) more outcome →
    piece → IsOffer hooked piece (routed_report outcome rects) 1
was_asked false refused piece more outcome rects was h = absurd (none-some refused (sym was))
was_asked true refused piece more outcome rects was h = record {
  most = omega arith;
  hooked_only = λ e. absurd (true≢false e);
  piece_only = λ none. absurd (none h);
  whole = λ e t p. refl;
  part = parted outcome;
}
  where
    parted : (o : Outcome) → IfSome (routed_report o rects) (λ (t : Told). t.rects ≢ [] → IsTrue true → ◌≡◌ {A = ℕ} 1 1)
    parted outcomes.All = tt
    parted (outcomes.Part cause) = λ drawn t. refl

offered_by : (hooked : Bool) (piece : Type 0) (more : Area) (outcome : Outcome) (rects : List Rect) (before after : Rest) (asking : Asking) →
    WasAsked hooked asking more outcome → CountsAsking asking Screen before after → ((p : Point) → is_in_some p rects ≡ more p) → All HasPoints rects → piece →
    (k : ℕ) × IsOffer hooked piece (routed_report outcome rects) k × (after.offered ≡ rises k before.offered)
offered_by hooked piece more outcome rects before after None was counts points each h =
    (0, never_asked hooked piece more outcome rects was points each, counts.offered)
offered_by hooked piece more outcome rects before after (Some refused) was counts points each h =
    (1, was_asked hooked refused piece more outcome rects was h, counts.offered)

declined_by : (hooked : Bool) (before after : PortState) (asking : Asking) → CountsAsking asking Screen before.rest after.rest →
    (IsTrue hooked → ¬ (asking ≡ Some true) → after.written ≡ before.written) → (m : ℕ) × IsDeclined hooked before after m
declined_by hooked before after None counts still = (
  0,
  record {
    most = omega arith;
    count = counts.declined;
    written = λ z t. still t (λ e. none-some true e);
  },
)
declined_by hooked before after (Some true) counts still = (
  1,
  record {
    most = omega arith;
    count = counts.declined;
    written = λ z t. absurd (omega (arith, z));
  },
)
declined_by hooked before after (Some false) counts still = (
  0,
  record {
    most = omega arith;
    count = counts.declined;
    written = λ z t. still t (λ e. true≢false (sym (same_Some false true e)));
  },
)

told_causes : (outcome : Outcome) (rects : List Rect) (before after : ℕ) → RouteCause before after outcome →
    All (λ (t : Told). HasCause t.cause before after) (option_to_list (routed_report outcome rects))
told_causes outcomes.All rects before after h k d lt = absurd (omega (arith, lt))
told_causes (outcomes.Part Fault) rects before after h zero d lt = h
told_causes (outcomes.Part Memory) rects before after h zero d lt = tt
told_causes (outcomes.Part cause) rects before after h (suc k) d lt = absurd (omega (arith, lt))

reported_here : (outcome : Outcome) (rects : List Rect) → report_on (option_to_list (routed_report outcome rects)) (named.Screen 0) ≡ routed_report outcome rects
reported_here outcomes.All rects = refl
reported_here (outcomes.Part cause) rects = refl

-- what a routed call leaves of the driver
pub routed_drives : (s : State) (c : DeskCommand) → HasPiece s c 0 → (a : Asked) → a.hook ≡ hook_of c.call → a.target ≡ Screen → (before after : PortState)
    (d e : Drawn) → All HasPoints e.rects → (outcome : Outcome) → Routed a before after d e outcome →
    Drives s (asked.Draw c) (option_to_list (routed_report outcome e.rects)) 0 before after
routed_drives s c piece a hooks target before after d e each outcome h =
    let counts = subst (λ (t : Target). CountsAsking h.asking t before.rest after.rest) target h.counts in
    let was = subst (λ (k : Hook). WasAsked (before.rest.hooks k) h.asking h.more outcome) hooks h.asked in
    let written = subst (λ (k : Hook). IsTrue (before.rest.hooks k) → ¬ (h.asking ≡ Some true) → after.written ≡ before.written) hooks h.written in
    record {
      later = h.later;
      causes = told_causes outcome e.rects before.faults after.faults h.cause;
      offered = subst (λ (r : Option Told). (k : ℕ) × IsOffer (before.rest.hooks (hook_of c.call)) (HasPiece s c 0) r k × (after.rest.offered ≡ rises k before.rest.offered))
          (sym (reported_here outcome e.rects))
          (offered_by (before.rest.hooks (hook_of c.call)) (HasPiece s c 0) h.more outcome e.rects before.rest after.rest h.asking was counts h.points each piece);
      declined = declined_by (before.rest.hooks (hook_of c.call)) before after h.asking counts written;
      mode = h.mode;
      bitmaps = h.bitmaps;
    }
