-- Copies of the parts of sources that are held.
use Rattle.std.proofs.Common.{◌≡◌, ◌∙◌, ◌↔◌, ℕ, ℤ, pos, ◌+ℤ◌, ◌-ℤ◌, ◌≤ℤ◌, ◌≤◌, ◌*◌, Bool, true, false, cond, IsTrue, List, Option, Some, None, is_some, option_map, refl, ap, sym, arith}
use Rattle.std.proofs.Common.{FitsSigned, IfSome, min, mul-le-mul_left, length, inl, inr}
use Rattle.std.specs.Int.{w32}
use Rattle.std.proofs.lemmas.Bool.{false≢true}
use Rattle.std.proofs.lemmas.Int.{ints}
use Rattle.std.proofs.lemmas.List.{length-replicate}
use Rattle.geom_base.specs.declared.point.Point.{Point}
use Rattle.geom_base.specs.declared.rect.Rect.{Rect}
use Rattle.geom_base.specs.declared.size.Size.{Size}
use Rattle.geom_base.specs.declared.target.Target.{Target}
use Rattle.geom_base.specs.Grid.{value_of_point}
use Rattle.geom_base.specs.PointLaws.{has_point, is_in-IsIn, lies_between}
use Rattle.geom_base.specs.Points.{HasPoints, HasSides, IsIn, LiesIn, corner_of, height_of, is_in, moved_back, moved_rect, sides_of, whole, width_of, RectMoves}
use Rattle.geom_base.specs.Tests.{same_tests}
use Rattle.pix_format.specs.declared.format.Format.{Format}
use Rattle.surf_obj.specs.Object.{IsBlank, object_size, object_values}
use Rattle.surf_obj.specs.RectLaws.{length-rect_values, rect_value}
use Rattle.surf_obj.specs.Rects.{rect_values}
use Rattle.surf_obj.specs.Surface.{Surface}
use Rattle.surf_obj.specs.declared.layout.Layout.{Layout}
use Rattle.surf_obj.specs.declared.object.SurfObj.{SurfObj}
use Rattle.brush_obj.specs.Calls.{IgnoresTarget, PointMovesBack, rect_of, shown, source_point, src_of}
use Rattle.brush_obj.specs.declared.draw_call.DrawCall.{DrawCall}
use Rattle.brush_obj.specs.declared.draw_call.DrawCall.TheVariants.{Blt, Copy, Paint}
use Rattle.copy_port.specs.Given.{HasCoordinates, IsCallRect, IsCoordinate, IsPoint, Picture, held_in, picture_of, points_of}
use Rattle.copy_port.specs.State.{IsLive, PortState, Shown, surface_of}
use Rattle.eng_calls.specs.Copies.{HeldFor, IsHeldPart, IsPlace, LiesOnTarget, begins_at}
use Rattle.eng_calls.specs.InnerCopies.{FindsSources, IsCopyOf, StandsIn, to_source}
use Rattle.eng_calls.specs.declared.copies.PartCopy.{PartCopy}

-- a rectangle of a target lies on a surface, and has sides
pub on_target : (r : Rect) (size : Size) → LiesIn r size → HasSides size → LiesOnTarget r
on_target r size h sides = record {
  left = h.left;
  across = h.across;
  right = omega (arith, ints, h.right, sides.1);
  top = h.top;
  down = h.down;
  bottom = omega (arith, ints, h.bottom, sides.3);
}

pub frame_on_target : (frame : Rect) (t : Target) (state : PortState) → IsLive state.shown t → LiesIn frame (surface_of state.shown t).size → LiesOnTarget frame
frame_on_target frame t state live inside = on_target frame (surface_of state.shown t).size inside (state.sound t live).sides

pub target_sides : HasSides (record { w = 4096; h = 4096 })
target_sides = (omega arith, omega arith, omega arith, omega arith)

pub rect_sides : (r : Rect) (size : Size) → LiesIn r size → HasSides size → HasPoints r → HasSides (sides_of r)
rect_sides r size h sides points = (
  omega (arith, ints, points.across),
  omega (arith, ints, h.left, h.right, points.across, sides.1),
  omega (arith, ints, points.down),
  omega (arith, ints, h.top, h.bottom, points.down, sides.3),
)

-- the coordinates of a call

call_rect : (call : DrawCall) → HasCoordinates call → IsCallRect (rect_of call)
call_rect (Blt c) h = h.0
call_rect (Copy c) h = h.0
call_rect (Paint c) h = h.0

zero_point : IsPoint (record { x = pos 0; y = pos 0 })
zero_point = ((omega (arith, ints), omega (arith, ints)), (omega (arith, ints), omega (arith, ints)))

call_src : (call : DrawCall) → HasCoordinates call → IsPoint (src_of call)
call_src (Blt c) h = h.1
call_src (Copy c) h = h.1
call_src (Paint c) h = zero_point

two_fit : (a b : ℤ) → IsCoordinate a → IsCoordinate b → FitsSigned w32 (a -ℤ b)
two_fit a b h k = grind (arith, ints, h.0, h.1, k.0, k.1)

three_fit : (z a b : ℤ) → pos 0 ≤ℤ z → z ≤ℤ pos 4096 → IsCoordinate a → IsCoordinate b → FitsSigned w32 (z +ℤ (a -ℤ b))
three_fit z a b low high h k = grind (arith, ints, low, high, h.0, h.1, k.0, k.1)

pub source_differs : (call : DrawCall) → HasCoordinates call → PointMovesBack (src_of call) (corner_of (rect_of call))
source_differs call h =
    let r = call_rect call h in
    let s = call_src call h in
    record { across = two_fit (src_of call).x (rect_of call).left s.0 r.left; down = two_fit (src_of call).y (rect_of call).top s.1 r.top }

pub source_moves : (call : DrawCall) (frame : Rect) → HasCoordinates call → LiesOnTarget frame → RectMoves (to_source call) frame
source_moves call frame h on =
    let r = call_rect call h in
    let s = call_src call h in
    record {
      left = three_fit frame.left (src_of call).x (rect_of call).left on.left (omega (arith, ints, on.across, on.right)) s.0 r.left;
      top = three_fit frame.top (src_of call).y (rect_of call).top on.top (omega (arith, ints, on.down, on.bottom)) s.1 r.top;
      right = three_fit frame.right (src_of call).x (rect_of call).left (omega (arith, ints, on.left, on.across)) on.right s.0 r.left;
      bottom = three_fit frame.bottom (src_of call).y (rect_of call).top (omega (arith, ints, on.top, on.down)) on.bottom s.1 r.top;
    }

-- a place fits beside a coordinate of a call
place_fits : (a b : ℤ) → IsCoordinate a → pos 0 ≤ℤ b → b ≤ℤ pos 4096 → FitsSigned w32 (a -ℤ b)
place_fits a b h low high = grind (arith, ints, h.0, h.1, low, high)

pub lent_place : (call : DrawCall) (at : Point) → HasCoordinates call → IsPlace at → PointMovesBack (src_of call) at
lent_place call at h p =
    let s = call_src call h in
    record { across = place_fits (src_of call).x at.x s.0 p.column.0 p.column.1; down = place_fits (src_of call).y at.y s.1 p.row.0 p.row.1 }

-- the points of a copy

in_copy : (r : Rect) (q : Point) → r.left ≤ℤ r.right → r.top ≤ℤ r.bottom → is_in (moved_back (corner_of r) q) (whole (sides_of r)) ≡ is_in q r
in_copy r q across down = same_tests (is_in (moved_back (corner_of r) q) (whole (sides_of r))) (is_in q r)
    (λ t. let h = (is_in-IsIn (moved_back (corner_of r) q) (whole (sides_of r))).0 t in
    (is_in-IsIn q r).1 (record {
      from_left = omega (arith, ints, h.from_left);
      to_right = omega (arith, ints, h.to_right, across);
      from_top = omega (arith, ints, h.from_top);
      to_bottom = omega (arith, ints, h.to_bottom, down);
    }))
    (λ t. let h = (is_in-IsIn q r).0 t in
    (is_in-IsIn (moved_back (corner_of r) q) (whole (sides_of r))).1 (record {
      from_left = omega (arith, ints, h.from_left);
      to_right = omega (arith, ints, h.to_right, across);
      from_top = omega (arith, ints, h.from_top);
      to_bottom = omega (arith, ints, h.to_bottom, down);
    }))

either : (b : Bool) (v w : ℕ) → (b ≡ true → v ≡ w) → cond b (Some v) None ≡ cond b (Some w) None
either true v w h = ap (λ (n : ℕ). Some n) (h refl)
either false v w h = refl

copy_points : (s : Surface) (r : Rect) (copy : SurfObj) (q : Point) → IsCopyOf s r copy → LiesIn r s.size →
    shown (object_size copy) (object_values copy) (moved_back (corner_of r) q) ≡ cond (is_in q r) (Some (value_of_point s.size s.values q)) None
copy_points s r copy q is inside =
    ap (λ (size : Size). shown size (object_values copy) (moved_back (corner_of r) q)) is.size
    ∙ ap (λ (vs : List ℕ). shown (sides_of r) vs (moved_back (corner_of r) q)) is.values
    ∙ ap (λ b. cond b (Some (value_of_point (sides_of r) (rect_values r s.size s.values) (moved_back (corner_of r) q))) None)
    (in_copy r q inside.across inside.down)
    ∙ (either (is_in q r) (value_of_point (sides_of r) (rect_values r s.size s.values) (moved_back (corner_of r) q)) (value_of_point s.size s.values q)
    (λ t. rect_value r s.size s.values q ((is_in-IsIn q r).0 t)))

-- the points of a source that is held
held_points : (t : Target) (targets : Shown) (q : Point) → IsLive targets t →
    points_of (held_in (Some t) targets) q ≡ shown (surface_of targets t).size (surface_of targets t).values q
held_points t targets q live = at (targets t) live
  where
    at : (o : Option Surface) → IsTrue (is_some o) →
        points_of (option_map picture_of o) q ≡ shown (surface_of (λ (u : Target). o) t).size (surface_of (λ (u : Target). o) t).values q
    at None l = absurd (false≢true l)
    at (Some s) l = refl

-- the source's points of a frame are in the frame moved to the source
source_in : (call : DrawCall) (frame : Rect) (p : Point) → IsIn p frame → IsIn (source_point call p) (moved_rect frame (to_source call))
source_in call frame p h = record {
  from_left = omega (arith, ints, h.from_left);
  to_right = omega (arith, ints, h.to_right);
  from_top = omega (arith, ints, h.from_top);
  to_bottom = omega (arith, ints, h.to_bottom);
}

-- and of these the source has those of the rectangle
abbrev pub IsSourceRect : DrawCall → Rect → Size → Rect → Type 0
IsSourceRect call frame size r = (q : Point) → IsIn q r ↔ (IsIn q (moved_rect frame (to_source call)) × IsIn q (whole size))

source_has : (call : DrawCall) (frame : Rect) (size : Size) (r : Rect) (p : Point) → IsSourceRect call frame size r → IsIn p frame →
    is_in (source_point call p) r ≡ is_in (source_point call p) (whole size)
source_has call frame size r p is h =
    let q = source_point call p in
    same_tests (is_in q r) (is_in q (whole size)) (λ t. (is_in-IsIn q (whole size)).1 ((is q).0 ((is_in-IsIn q r).0 t)).1)
    (λ t. (is_in-IsIn q r).1 ((is q).1 (source_in call frame p h, (is_in-IsIn q (whole size)).0 t)))

pub held_some : (t : Target) (call : DrawCall) (targets : Shown) (frame r : Rect) (copy : PartCopy) → IsLive targets t → HasSides (surface_of targets t).size →
    IsCopyOf (surface_of targets t) r copy.pixels → copy.corner ≡ corner_of r → LiesIn r (surface_of targets t).size →
    IsSourceRect call frame (surface_of targets t).size r → IsHeldPart t call targets frame (Some copy)
held_some t call targets frame r copy live sides is corner inside source = record {
  place = rw corner (record {
    column = (inside.left, omega (arith, ints, inside.across, inside.right, sides.1));
    row = (inside.top, omega (arith, ints, inside.down, inside.bottom, sides.3));
  });
  format = is.format;
  points = λ reads p h.
      let s = surface_of targets t in
      let q = source_point call p in
      rw corner (copy_points s r copy.pixels q is inside)
      ∙ ap (λ b. cond b (Some (value_of_point s.size s.values q)) None) (source_has call frame s.size r p source h)
      ∙ sym (held_points t targets q live);
}

nothing_in : (r : Rect) (q : Point) → ¬ HasPoints r → is_in q r ≡ false
nothing_in r q none = at (is_in q r) refl
  where
    at : (b : Bool) → is_in q r ≡ b → b ≡ false
    at true e = absurd (none (has_point ((is_in-IsIn q r).0 e)))
    at false e = refl

pub held_none : (t : Target) (call : DrawCall) (targets : Shown) (frame r : Rect) → IsLive targets t → ¬ HasPoints r →
    IsSourceRect call frame (surface_of targets t).size r → IsHeldPart t call targets frame None
held_none t call targets frame r live none source = record {
  place = record { column = (omega (arith, ints), omega (arith, ints)); row = (omega (arith, ints), omega (arith, ints)) };
  format = tt;
  points = λ reads p h.
      let s = surface_of targets t in
      let q = source_point call p in
      let out : is_in q (whole s.size) ≡ false = sym (source_has call frame s.size r p source h) ∙ nothing_in r q none in
      sym (held_points t targets q live ∙ ap (λ b. cond b (Some (value_of_point s.size s.values q)) None) out);
}

pub held_for : (held : Option Target) (t : Target) (call : DrawCall) (targets : Shown) (frame : Rect) (part : Option PartCopy) → held ≡ Some t →
    IsHeldPart t call targets frame part → HeldFor held call targets frame part
held_for held t call targets frame part e h = rw e h

pub held_place : (held : Option Target) (call : DrawCall) (targets : Shown) (frame : Rect) (part : Option PartCopy) → HeldFor held call targets frame part →
    IsPlace (begins_at part)
held_place None call targets frame part h =
    rw h (record { column = (omega (arith, ints), omega (arith, ints)); row = (omega (arith, ints), omega (arith, ints)) })
held_place (Some t) call targets frame part h = h.place

-- the rectangle of a source is no wider than the frame
pub no_wider : (call : DrawCall) (frame : Rect) (size : Size) (r : Rect) → IsSourceRect call frame size r → HasPoints r → width_of r ≤ width_of frame
no_wider call frame size r is points =
    let between = lies_between r (moved_rect frame (to_source call)) (λ q h. ((is q).0 h).0) points in
    omega (arith, ints, between.left, between.right, points.across)

-- a target that is held is live
pub live_held : (held : Option Target) (t : Target) (targets : Shown) → held ≡ Some t → IfSome held (IsLive targets) → IsLive targets t
live_held held t targets e h = let there : IfSome (Some t) (IsLive targets) = rw e at h in there

-- there is room for a row at least
pub row_fits : (r : Rect) (n : ℕ) → HasPoints r → LiesOnTarget r → n ≡ min (width_of r * height_of r) 4096 → width_of r ≤ n
row_fits r n points on e =
    let wide : width_of r ≤ 4096 = omega (arith, ints, on.left, on.right, points.across) in
    let high : 1 ≤ height_of r = omega (arith, ints, points.down) in
    least (width_of r) (height_of r) n wide high e
  where
    least : (w h n : ℕ) → w ≤ 4096 → 1 ≤ h → n ≡ min (w * h) 4096 → w ≤ n
    least w h n wide high e = let p : w * 1 ≤ w * h = mul-le-mul_left w high in omega (arith, p, wide, e)

-- a source finds the points for those of a rectangle

pub finds_all : (call : DrawCall) (size : Size) (r part : Rect) → part ≡ moved_rect r (to_source call) → (pos 0 ≤ℤ part.left) × (part.right ≤ℤ pos size.w) →
    (pos 0 ≤ℤ part.top) × (part.bottom ≤ℤ pos size.h) → (p : Point) → IsIn p r → IsIn (source_point call p) (whole size)
finds_all call size r part is across down p h =
    let i : IsIn (source_point call p) part = rw is (source_in call r p h) in
    record {
      from_left = omega (arith, ints, across.0, i.from_left);
      to_right = omega (arith, ints, across.1, i.to_right);
      from_top = omega (arith, ints, down.0, i.from_top);
      to_bottom = omega (arith, ints, down.1, i.to_bottom);
    }

shown_there : (size : Size) (values : List ℕ) (q : Point) → IsIn q (whole size) → IsTrue (is_some (shown size values q))
shown_there size values q h = ap (λ b. is_some (cond b (Some (value_of_point size values q)) None)) ((is_in-IsIn q (whole size)).1 h)

-- what stands in the place of a part of a target

pub copy_stands : (call : DrawCall) (source : Option Picture) (s : Surface) (r : Rect) (pixels : SurfObj) → IsCopyOf s r pixels → StandsIn call source s r pixels
copy_stands call source s r pixels h = record {
  size = h.size;
  format = h.format;
  count = ap length h.values ∙ length-rect_values r s.size s.values;
  values = inl h.values;
}

pub blank_stands : (call : DrawCall) (source : Option Picture) (s : Surface) (r : Rect) (format : Format) (pixels : SurfObj) → format ≡ s.format →
    IsBlank (sides_of r) format pixels → IgnoresTarget call → FindsSources call source r → StandsIn call source s r pixels
blank_stands call source s r format pixels e h ignores finds = record {
  size = ap (λ (l : Layout). l.size) h.layout;
  format = ap (λ (l : Layout). l.format) h.layout ∙ e;
  count = ap length h.values ∙ length-replicate (width_of r * height_of r) 0;
  values = inr (ignores, finds);
}
