-- What a drawing asks of a screen, in points.
use Rattle.std.proofs.Common.{◌≡◌, ◌∙◌, ◌↔◌, ℤ, pos, negsuc, ◌+ℤ◌, ◌-ℤ◌, ◌≤ℤ◌, Bool, true, false, ◌&&◌, IsTrue, refl, sym, ap, subst, arith}
use Rattle.std.proofs.Common.{FitsSigned, w32, true≢false}
use Rattle.std.specs.Prelude.{if◌then◌else◌}
use Rattle.std.specs.Cmp.Derive.{both_true}
use Rattle.std.proofs.lemmas.Bool.{and_parts}
use Rattle.std.proofs.lemmas.Int.{ints}
use Rattle.geom_base.specs.declared.point.Point.{Point}
use Rattle.geom_base.specs.declared.rect.Rect.{Rect}
use Rattle.geom_base.specs.declared.size.Size.{Size}
use Rattle.geom_base.specs.Points.{IsIn, LiesIn, RectMoves, corner_of, is_in, moved, moved_back, moved_rect, whole}
use Rattle.geom_base.specs.PointLaws.{is_in-IsIn}
use Rattle.geom_base.specs.Tests.{same_tests}
use Rattle.brush_obj.specs.Calls.{PointMovesBack, lent_call, moved_call, reads_source, rect_of, source_point, src_of}
use Rattle.brush_obj.specs.declared.draw_call.DrawCall.{DrawCall}
use Rattle.brush_obj.specs.declared.draw_call.DrawCall.TheVariants.{Blt, Copy, Paint}
use Rattle.clip_obj.specs.Clip.{to_origin}
use Rattle.copy_port.specs.Given.{HasCoordinates, IsCoordinate}
use Rattle.script_orders.specs.Asked.{IsSurfaceSize}
use Rattle.script_orders.specs.declared.desk_command.DeskCommand.{DeskCommand}
use Rattle.script_orders.specs.declared.desk_command.Feed.{Feed}
use Rattle.script_orders.specs.declared.desk_command.Feed.TheVariants as feeds
use Rattle.script_orders.specs.declared.desk_command.Spot.{Spot}
use Rattle.script_orders.specs.declared.desk_command.Spot.TheVariants as spots
use Rattle.desk_span.specs.Desk.{in_clip}
use Rattle.desk_span.specs.InnerBeside.{is_own, stand_of}
use Rattle.desk_span.specs.InnerFrames.{LetsThrough}
use Rattle.desk_span.specs.InnerPieces.{FindsThere, aimed, piece_on, screen_call}
use Rattle.desk_span.specs.Kept.{ScreenKept}
use Rattle.desk_span.specs.Meeting.{Reaches}
use Rattle.desk_span.specs.Pieces.{is_desk}
use Rattle.desk_span.proofs.FrameLemmas.{IsEdge, back_and_there, first_edge, frame_back, is_in_seen, last_edge}

-- how far two coordinates are apart
pub record IsOffset (z : ℤ) : Type 0 where
  pub least : negsuc 33554431 ≤ℤ z
  pub most : z ≤ℤ pos 33554432

offset : (a b : ℤ) → IsCoordinate a → IsCoordinate b → IsOffset (a -ℤ b)
offset a b h k = record { least = omega (arith, ints, h.0, k.1); most = omega (arith, ints, h.1, k.0) }

offset_fits : (z : ℤ) → IsOffset z → FitsSigned w32 z
offset_fits z h = grind (arith, ints, h.least, h.most)

zero_coordinate : IsCoordinate (pos 0)
zero_coordinate = (omega (arith, ints), omega (arith, ints))

pub record IsNear (p : Point) : Type 0 where
  pub across : IsOffset p.x
  pub down : IsOffset p.y

-- how far a call's source is from its target
pub source_near : (call : DrawCall) → HasCoordinates call → IsNear (moved_back (corner_of (rect_of call)) (src_of call))
source_near (Blt c) h = record { across = offset c.src.x c.rect.left h.1.0 h.0.left; down = offset c.src.y c.rect.top h.1.1 h.0.top }
source_near (Copy c) h = record { across = offset c.src.x c.rect.left h.1.0 h.0.left; down = offset c.src.y c.rect.top h.1.1 h.0.top }
source_near (Paint c) h = record { across = offset (pos 0) c.rect.left zero_coordinate h.0.left; down = offset (pos 0) c.rect.top zero_coordinate h.0.top }

pub near_moves_back : (p by : Point) → IsNear (moved_back by p) → PointMovesBack p by
near_moves_back p by h = record { across = offset_fits _ h.across; down = offset_fits _ h.down }

edge_near : (z by : ℤ) → IsEdge z → IsOffset by → FitsSigned w32 (z +ℤ by)
edge_near z by e h = grind (arith, ints, e.low, e.high, h.least, h.most)

edge_near_back : (z by : ℤ) → IsEdge z → IsOffset by → FitsSigned w32 (z +ℤ (pos 0 -ℤ by))
edge_near_back z by e h = grind (arith, ints, e.low, e.high, h.least, h.most)

module _ (r : Rect) (size : Size) (sides : IsSurfaceSize size) (inside : LiesIn r size) where
  left : IsEdge r.left
  left = first_edge r.left r.right size.w inside.left inside.across inside.right sides.most_width

  right : IsEdge r.right
  right = last_edge r.left r.right size.w inside.left inside.across inside.right sides.most_width

  top : IsEdge r.top
  top = first_edge r.top r.bottom size.h inside.top inside.down inside.bottom sides.most_height

  bottom : IsEdge r.bottom
  bottom = last_edge r.top r.bottom size.h inside.top inside.down inside.bottom sides.most_height

  -- a rectangle of a surface moves so far, and back
  pub moves_near : (by : Point) → IsNear by → RectMoves by r
  moves_near by h = record {
    left = edge_near r.left by.x left h.across;
    top = edge_near r.top by.y top h.down;
    right = edge_near r.right by.x right h.across;
    bottom = edge_near r.bottom by.y bottom h.down;
  }

  pub moves_near_back : (by : Point) → IsNear by → RectMoves (to_origin by) r
  moves_near_back by h = record {
    left = edge_near_back r.left by.x left h.across;
    top = edge_near_back r.top by.y top h.down;
    right = edge_near_back r.right by.x right h.across;
    bottom = edge_near_back r.bottom by.y bottom h.down;
  }

-- a point in a rectangle that is moved back
in_moved : (p by : Point) (r : Rect) → IsIn p (moved_rect r (to_origin by)) ↔ IsIn (moved p by) r
in_moved p by r = (
  λ h. record {
    from_left = omega (arith, ints, h.from_left);
    to_right = omega (arith, ints, h.to_right);
    from_top = omega (arith, ints, h.from_top);
    to_bottom = omega (arith, ints, h.to_bottom);
  },
  λ h. record {
    from_left = omega (arith, ints, h.from_left);
    to_right = omega (arith, ints, h.to_right);
    from_top = omega (arith, ints, h.from_top);
    to_bottom = omega (arith, ints, h.to_bottom);
  },
)

in_moved_on : (p by : Point) (r : Rect) → IsIn (moved p by) (moved_rect r by) ↔ IsIn p r
in_moved_on p by r = (
  λ h. record {
    from_left = omega (arith, ints, h.from_left);
    to_right = omega (arith, ints, h.to_right);
    from_top = omega (arith, ints, h.from_top);
    to_bottom = omega (arith, ints, h.to_bottom);
  },
  λ h. record {
    from_left = omega (arith, ints, h.from_left);
    to_right = omega (arith, ints, h.to_right);
    from_top = omega (arith, ints, h.from_top);
    to_bottom = omega (arith, ints, h.to_bottom);
  },
)

-- a source's point is the target's, moved so far
source_moved : (call : DrawCall) (p : Point) → moved p (moved_back (corner_of (rect_of call)) (src_of call)) ≡ source_point call p
source_moved call p = λ i. record {
  x = (let e : p.x +ℤ ((src_of call).x -ℤ (rect_of call).left) ≡ (p.x -ℤ (rect_of call).left) +ℤ (src_of call).x = omega (arith, ints) in e) i;
  y = (let e : p.y +ℤ ((src_of call).y -ℤ (rect_of call).top) ≡ (p.y -ℤ (rect_of call).top) +ℤ (src_of call).y = omega (arith, ints) in e) i;
}

-- the points of a frame for which a surface of a size has the source's points
pub found_there : (call : DrawCall) (size : Size) (frame sought found there back : Rect) (by : Point) → by ≡ moved_back (corner_of (rect_of call)) (src_of call) →
    LiesIn frame size → sought ≡ moved_rect frame by → ((q : Point) → IsIn q found ↔ (IsIn q sought × IsIn q (whole size))) →
    there ≡ moved_rect found (to_origin by) → ((p : Point) → IsIn p back ↔ (IsIn p there × IsIn p (whole size))) →
    (p : Point) → IsIn p back ↔ (IsIn p frame × IsIn (source_point call p) (whole size))
found_there call size frame sought found there back by is inside moved_on cut moved_so again p = (
  λ h.
      let q = (again p).0 h in
      let f = (cut (moved p by)).0 ((in_moved p by found).0 (subst (λ (r : Rect). IsIn p r) moved_so q.0)) in (
        (in_moved_on p by frame).0 (subst (λ (r : Rect). IsIn (moved p by) r) moved_on f.0),
        subst (λ (s : Point). IsIn s (whole size)) (ap (moved p) is ∙ source_moved call p) f.1,
      ),
  λ h.
      let s = subst (λ (s : Point). IsIn s (whole size)) (sym (source_moved call p) ∙ ap (moved p) (sym is)) h.1 in
      let f = subst (λ (r : Rect). IsIn (moved p by) r) (sym moved_on) ((in_moved_on p by frame).1 h.0) in
      (again p).1 (
        subst (λ (r : Rect). IsIn p r) (sym moved_so) ((in_moved p by found).1 ((cut (moved p by)).1 (f, s))),
        record {
          from_left = omega (arith, ints, inside.left, h.0.from_left);
          to_right = omega (arith, ints, inside.right, h.0.to_right);
          from_top = omega (arith, ints, inside.top, h.0.from_top);
          to_bottom = omega (arith, ints, inside.bottom, h.0.to_bottom);
        },
      ),
)

-- so it is where a call reads what it draws on
pub sought_there : (own : Bool) (call : DrawCall) (size : Size) (frame found : Rect) → (own && reads_source call) ≡ true →
    ((p : Point) → IsIn p found ↔ (IsIn p frame × IsIn (source_point call p) (whole size))) →
    ((p : Point) → IsIn p frame ↔ (IsIn p (rect_of call) × IsIn p (whole size))) →
    (p : Point) → IsIn p found ↔ (IsIn p (rect_of call) × IsIn p (whole size) × FindsThere own call size p)
sought_there own call size frame found reads points in_frame p = (
  λ h. let f = (points p).0 h in let r = (in_frame p).0 f.0 in (r.0, r.1, λ t. f.1),
  λ h. (points p).1 ((in_frame p).1 (h.0, h.1), h.2 reads),
)

-- where the call doesn't read what it draws on, nothing is to be found there
pub nothing_sought : (own : Bool) (call : DrawCall) (size : Size) (frame : Rect) → (own && reads_source call) ≡ false →
    ((p : Point) → IsIn p frame ↔ (IsIn p (rect_of call) × IsIn p (whole size))) →
    (p : Point) → IsIn p frame ↔ (IsIn p (rect_of call) × IsIn p (whole size) × FindsThere own call size p)
nothing_sought own call size frame none in_frame p = (
  λ h. let r = (in_frame p).0 h in (r.0, r.1, λ t. absurd (true≢false (sym t ∙ none))),
  λ h. (in_frame p).1 (h.0, h.1),
)

-- what a call reaches and reads is the same on whatever target
pub rect_aimed : (own : Bool) (call : DrawCall) → rect_of (aimed own call) ≡ rect_of call
rect_aimed own (Blt c) = refl
rect_aimed own (Copy c) = refl
rect_aimed own (Paint c) = refl

pub reads_aimed : (own : Bool) (call : DrawCall) → reads_source (aimed own call) ≡ reads_source call
reads_aimed own (Blt c) = refl
reads_aimed own (Copy c) = refl
reads_aimed own (Paint c) = refl

pub src_aimed : (own : Bool) (call : DrawCall) → src_of (aimed own call) ≡ src_of call
src_aimed own (Blt c) = refl
src_aimed own (Copy c) = refl
src_aimed own (Paint c) = refl

pub coordinates_aimed : (own : Bool) (call : DrawCall) → HasCoordinates call → HasCoordinates (aimed own call)
coordinates_aimed own (Blt c) h = h
coordinates_aimed own (Copy c) h = h
coordinates_aimed own (Paint c) h = h

-- the source's point of a call that is seen from where a screen stands, its source counted from where that stands
source_seen : (own : Bool) (call : DrawCall) (at stand p : Point) → reads_source call ≡ true →
    source_point (aimed own (lent_call (moved_call call (to_origin at)) stand)) p ≡ moved_back stand (source_point call (moved p at))
source_seen own (Blt c) at stand p e = λ i. record {
  x = (let k : (p.x -ℤ (c.rect.left +ℤ (pos 0 -ℤ at.x))) +ℤ (c.src.x -ℤ stand.x) ≡ (((p.x +ℤ at.x) -ℤ c.rect.left) +ℤ c.src.x) -ℤ stand.x = omega (arith, ints) in k) i;
  y = (let k : (p.y -ℤ (c.rect.top +ℤ (pos 0 -ℤ at.y))) +ℤ (c.src.y -ℤ stand.y) ≡ (((p.y +ℤ at.y) -ℤ c.rect.top) +ℤ c.src.y) -ℤ stand.y = omega (arith, ints) in k) i;
}
source_seen own (Copy c) at stand p e = λ i. record {
  x = (let k : (p.x -ℤ (c.rect.left +ℤ (pos 0 -ℤ at.x))) +ℤ (c.src.x -ℤ stand.x) ≡ (((p.x +ℤ at.x) -ℤ c.rect.left) +ℤ c.src.x) -ℤ stand.x = omega (arith, ints) in k) i;
  y = (let k : (p.y -ℤ (c.rect.top +ℤ (pos 0 -ℤ at.y))) +ℤ (c.src.y -ℤ stand.y) ≡ (((p.y +ℤ at.y) -ℤ c.rect.top) +ℤ c.src.y) -ℤ stand.y = omega (arith, ints) in k) i;
}
source_seen own (Paint c) at stand p e = absurd (true≢false (sym e))

reads_seen : (own : Bool) (call : DrawCall) (by stand : Point) → reads_source (aimed own (lent_call (moved_call call by) stand)) ≡ reads_source call
reads_seen own (Blt c) by stand = refl
reads_seen own (Copy c) by stand = refl
reads_seen own (Paint c) by stand = refl

rect_there : (own : Bool) (call : DrawCall) (by stand : Point) → rect_of (aimed own (lent_call (moved_call call by) stand)) ≡ moved_rect (rect_of call) by
rect_there own (Blt c) by stand = refl
rect_there own (Copy c) by stand = refl
rect_there own (Paint c) by stand = refl

pub owns_desk : (spot : Spot) (feed : Feed) → spot ≡ spots.Desk → is_own spot feed ≡ is_desk feed
owns_desk spot feeds.Nothing e = rw e refl
owns_desk spot feeds.Desk e = rw e refl
owns_desk spot (feeds.Bitmap n) e = rw e refl
owns_desk spot (feeds.Row values) e = rw e refl

stands_there : (at : Point) (feed : Feed) → is_desk feed ≡ true → stand_of at feed ≡ at
stands_there at feeds.Nothing e = absurd (true≢false (sym e))
stands_there at feeds.Desk e = refl
stands_there at (feeds.Bitmap n) e = absurd (true≢false (sym e))
stands_there at (feeds.Row values) e = absurd (true≢false (sym e))

-- what is asked of a point where a call reads the desk
found_test : (reads desk : Bool) (P : Type 0) (t : Bool) → (reads ≡ true → desk ≡ true → P ↔ IsTrue t) →
    (IsTrue (desk && reads) → P) ↔ IsTrue (if reads && desk then t else true)
found_test true true P t h = (λ f. (h refl refl).0 (f refl), λ k x. (h refl refl).1 k)
found_test true false P t h = (λ f. refl, λ k x. absurd (true≢false (sym x)))
found_test false true P t h = (λ f. refl, λ k x. absurd (true≢false (sym x)))
found_test false false P t h = (λ f. refl, λ k x. absurd (true≢false (sym x)))

module _ (w : ScreenKept) (c : DeskCommand) (own : Bool) (call : DrawCall) (frame : Rect) (owns : own ≡ is_desk c.source)
    (is : call ≡ aimed own (screen_call w c))
    (points : (p : Point) → IsIn p frame ↔ (IsIn p (rect_of call) × IsIn p (whole w.size) × FindsThere own call w.size p)) where
  abbrev sought : Point → Bool
  sought q = if reads_source c.call && is_desk c.source then is_in (moved_back w.at (source_point c.call q)) (whole w.size) else true

  reached_there : (p : Point) → IsIn p (rect_of call) ↔ IsIn (moved p w.at) (rect_of c.call)
  reached_there p =
      subst (λ (r : Rect). IsIn p r ↔ IsIn (moved p w.at) (rect_of c.call))
      (sym (ap rect_of is ∙ rect_there own c.call (to_origin w.at) (stand_of w.at c.source))) (in_moved p w.at (rect_of c.call))

  source_there : (p : Point) → reads_source c.call ≡ true → is_desk c.source ≡ true → source_point call p ≡ moved_back w.at (source_point c.call (moved p w.at))
  source_there p reads desk =
      ap (λ (d : DrawCall). source_point d p) is ∙ source_seen own c.call w.at (stand_of w.at c.source) p reads
      ∙ ap (λ (s : Point). moved_back s (source_point c.call (moved p w.at))) (stands_there w.at c.source desk)

  finds_there : (p : Point) → FindsThere own call w.size p ↔ IsTrue (sought (moved p w.at))
  finds_there p =
      let reads : reads_source call ≡ reads_source c.call = ap reads_source is ∙ reads_seen own c.call (to_origin w.at) (stand_of w.at c.source) in
      subst (λ (b : Bool). (IsTrue b → IsIn (source_point call p) (whole w.size)) ↔ IsTrue (sought (moved p w.at)))
      (sym (ap (λ (b : Bool). b && reads_source call) owns ∙ ap (λ (b : Bool). is_desk c.source && b) reads))
      (found_test (reads_source c.call) (is_desk c.source) (IsIn (source_point call p) (whole w.size))
      (is_in (moved_back w.at (source_point c.call (moved p w.at))) (whole w.size))
      (λ r d. subst (λ (s : Point). IsIn s (whole w.size) ↔ IsTrue (is_in (moved_back w.at (source_point c.call (moved p w.at))) (whole w.size)))
      (sym (source_there p r d)) (let t = is_in-IsIn (moved_back w.at (source_point c.call (moved p w.at))) (whole w.size) in (t.1, t.0))))

  -- a point of the screen is in the frame where the drawing reaches it and finds its source
  in_frame : (p : Point) → IsIn p (whole w.size) → is_in p frame ≡ (is_in (moved p w.at) (rect_of c.call) && sought (moved p w.at))
  in_frame p on =
      same_tests (is_in p frame) (is_in (moved p w.at) (rect_of c.call) && sought (moved p w.at))
      (λ h. let f = (points p).0 ((is_in-IsIn p frame).0 h) in
      both_true ((is_in-IsIn (moved p w.at) (rect_of c.call)).1 ((reached_there p).0 f.0)) ((finds_there p).0 f.2))
      (λ h. let b = and_parts (is_in (moved p w.at) (rect_of c.call)) (sought (moved p w.at)) h in
      (is_in-IsIn p frame).1 ((points p).1 ((reached_there p).1 ((is_in-IsIn (moved p w.at) (rect_of c.call)).0 b.0), on, (finds_there p).1 b.1)))

  -- and the clip lets it through
  pub piece_points : (asked : Rect) → asked ≡ moved_rect frame w.at → (p : Point) → IsIn p (whole w.size) →
      (in_clip c.clip (moved p w.at) && is_in p (moved_rect asked (to_origin w.at))) ≡ piece_on w c p
  piece_points asked e p on =
      ap (λ (r : Rect). in_clip c.clip (moved p w.at) && is_in p r) (ap (λ (r : Rect). moved_rect r (to_origin w.at)) e ∙ frame_back frame w.at)
      ∙ ap (λ (b : Bool). in_clip c.clip (moved p w.at) && b) (in_frame p on)
      ∙ and_assoc (in_clip c.clip (moved p w.at)) (is_in (moved p w.at) (rect_of c.call)) (sought (moved p w.at))
    where
      and_assoc : (x y z : Bool) → (x && (y && z)) ≡ ((x && y) && z)
      and_assoc true y z = refl
      and_assoc false y z = refl

  -- a point that the clip lets through is one of the piece, and there is such a point where there is a piece
  pub piece_met : (asked : Rect) → asked ≡ moved_rect frame w.at → LiesIn frame w.size → LetsThrough c.clip asked → Reaches (piece_on w c) w.size
  piece_met asked e inside m =
      let p = moved m.point (to_origin w.at) in
      let back : moved p w.at ≡ m.point = back_and_there m.point w.at in
      let in_asked : is_in p (moved_rect asked (to_origin w.at)) ≡ true = sym (is_in_seen p w.at asked) ∙ ap (λ (q : Point). is_in q asked) back ∙ m.inside in
      let on_frame : IsIn p frame =
      (is_in-IsIn p frame).0 (sym (ap (is_in p) (ap (λ (r : Rect). moved_rect r (to_origin w.at)) e ∙ frame_back frame w.at)) ∙ in_asked) in
      let on = ((points p).0 on_frame).1 in
      record {
        point = p;
        inside = (is_in-IsIn p (whole w.size)).1 on;
        reached = sym (piece_points asked e p on) ∙ both_true (ap (in_clip c.clip) back ∙ m.held) in_asked;
      }

  pub piece_unmet : (asked : Rect) → asked ≡ moved_rect frame w.at → (LetsThrough c.clip asked → ⊥) → ¬ (Reaches (piece_on w c) w.size)
  piece_unmet asked e none r =
      let on = (is_in-IsIn r.point (whole w.size)).0 r.inside in
      let b = and_parts (in_clip c.clip (moved r.point w.at)) (is_in r.point (moved_rect asked (to_origin w.at))) (piece_points asked e r.point on ∙ r.reached) in
      none (record { point = moved r.point w.at; held = b.0; inside = is_in_seen r.point w.at asked ∙ b.1 })

rect_lent : (call : DrawCall) (by stand : Point) → rect_of (lent_call (moved_call call by) stand) ≡ moved_rect (rect_of call) by
rect_lent (Blt c) by stand = refl
rect_lent (Copy c) by stand = refl
rect_lent (Paint c) by stand = refl

-- what a drawing reaches its call on the screen reaches
pub reached_on_screen : (w : ScreenKept) (c : DeskCommand) (p : Point) → IsTrue (is_in (moved p w.at) (rect_of c.call)) →
    IsTrue (is_in p (rect_of (screen_call w c)))
reached_on_screen w c p h = ap (is_in p) (rect_lent c.call (to_origin w.at) (stand_of w.at c.source)) ∙ sym (is_in_seen p w.at (rect_of c.call)) ∙ h
