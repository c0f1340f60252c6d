-- What lies of a rectangle on a surface, and what a clip lets through of it.
use Rattle.std.proofs.Common.{◌≡◌, ◌∙◌, ◌↔◌, ℕ, ℤ, pos, ◌<◌, ◌≤◌, ◌+ℤ◌, ◌-ℤ◌, ◌≤ℤ◌, true, IsTrue, List, refl, sym, ap, subst, arith, None, int_le, int_lt}
use Rattle.std.proofs.Common.{FitsSigned, w32}
use Rattle.std.specs.Cmp.Derive.{both_true}
use Rattle.std.specs.List.{All}
use Rattle.std.proofs.lemmas.Bool.Decides.{nat_tests}
use Rattle.std.proofs.lemmas.Int.{ints}
use Rattle.geom_base.specs.declared.point.Point.{Point}
use Rattle.geom_base.specs.declared.rect.Rect.{Rect}
use Rattle.geom_base.specs.declared.size.Size.{Size}
use Rattle.geom_base.specs.Points.{HasPoints, IsIn, is_in, LiesIn, most_side, moved, moved_rect, point_at, whole, RectMoves}
use Rattle.geom_base.specs.PointLaws.{has_point, is_in-IsIn, first_is_in, same_edges}
use Rattle.geom_base.specs.Tests.{same_tests}
use Rattle.brush_obj.specs.Calls.{PointMovesBack, moved_call, rect_of, src_of}
use Rattle.brush_obj.specs.declared.draw_call.DrawCall.{DrawCall}
use Rattle.brush_obj.specs.declared.draw_call.DrawCall.TheVariants.{Blt, Copy, Paint}
use Rattle.clip_obj.specs.Clip.{LiesWithin, to_origin}
use Rattle.script_orders.specs.Asked.{IsSurfaceSize}
use Rattle.script_orders.specs.declared.desk_command.DeskCommand.{DeskCommand}
use Rattle.script_orders.specs.Places.{IsStand, MayStandAt}
use Rattle.desk_span.specs.Desk.{area_of, in_clip}
use Rattle.desk_span.specs.InnerFrames.{LetsThrough}
use Rattle.desk_span.specs.Meeting.{Reaches}

-- rectangles within one that lies in a surface lie there
pub all_lie_in : (frame : Rect) (size : Size) (rects : List Rect) → LiesIn frame size → All (LiesWithin frame) rects → All (λ r. LiesIn r size) rects
all_lie_in frame size rects f all k d lt =
    let w = all k d lt in
    record {
      left = omega (arith, ints, f.left, w.left);
      across = w.across;
      right = omega (arith, ints, f.right, w.right);
      top = omega (arith, ints, f.top, w.top);
      down = w.down;
      bottom = omega (arith, ints, f.bottom, w.bottom);
    }

-- a frame alone lets a point through where it has points
pub met_alone : (frame : Rect) → HasPoints frame ↔ LetsThrough None frame
met_alone frame = (
  λ h. record { point = record { x = frame.left; y = frame.top }; held = refl; inside = (is_in-IsIn _ frame).1 (first_is_in frame h.across h.down) },
  λ m. has_point ((is_in-IsIn m.point frame).0 m.inside),
)

-- the points of a frame on a surface are those of its rectangle
abbrev pub IsFrameOf : Rect → Rect → Size → Type 0
IsFrameOf frame r size = (p : Point) → IsIn p frame ↔ (IsIn p r × IsIn p (whole size))

-- a point of a surface that stands at a point, as the drawing counts it, and back
pub there_and_back : (p at : Point) → moved (moved p at) (to_origin at) ≡ p
there_and_back p at = λ i. record {
  x = (let e : (p.x +ℤ at.x) +ℤ (pos 0 -ℤ at.x) ≡ p.x = omega (arith, ints) in e) i;
  y = (let e : (p.y +ℤ at.y) +ℤ (pos 0 -ℤ at.y) ≡ p.y = omega (arith, ints) in e) i;
}

pub back_and_there : (p at : Point) → moved (moved p (to_origin at)) at ≡ p
back_and_there p at = λ i. record {
  x = (let e : (p.x +ℤ (pos 0 -ℤ at.x)) +ℤ at.x ≡ p.x = omega (arith, ints) in e) i;
  y = (let e : (p.y +ℤ (pos 0 -ℤ at.y)) +ℤ at.y ≡ p.y = omega (arith, ints) in e) i;
}

pub frame_back : (frame : Rect) (at : Point) → moved_rect (moved_rect frame at) (to_origin at) ≡ frame
frame_back frame at = same_edges _ frame (omega (arith, ints)) (omega (arith, ints)) (omega (arith, ints)) (omega (arith, ints))

moved_le : (a x b : ℤ) → int_le a (x +ℤ b) ≡ int_le (a +ℤ (pos 0 -ℤ b)) x
moved_le a x b = grind (arith, ints)

moved_lt : (a x b : ℤ) → int_lt (x +ℤ b) a ≡ int_lt x (a +ℤ (pos 0 -ℤ b))
moved_lt a x b = grind (arith, ints)

-- a point is in a rectangle of a drawing where it is in that rectangle as the surface counts it
pub is_in_seen : (p at : Point) (r : Rect) → is_in (moved p at) r ≡ is_in p (moved_rect r (to_origin at))
is_in_seen p at r = rw (moved_le r.left p.x at.x, moved_lt r.right p.x at.x, moved_le r.top p.y at.y, moved_lt r.bottom p.y at.y) refl

-- the edges of a frame on a surface that stands at a point are in range as the drawing counts them, and as the surface does
pub record IsEdge (z : ℤ) : Type 0 where
  pub low : pos 0 ≤ℤ z
  pub high : z ≤ℤ pos most_side

pub first_edge : (a b : ℤ) (n : ℕ) → pos 0 ≤ℤ a → a ≤ℤ b → b ≤ℤ pos n → n ≤ most_side → IsEdge a
first_edge a b n low along high few = record { low = low; high = omega (arith, ints, along, high, few) }

pub last_edge : (a b : ℤ) (n : ℕ) → pos 0 ≤ℤ a → a ≤ℤ b → b ≤ℤ pos n → n ≤ most_side → IsEdge b
last_edge a b n low along high few = record { low = omega (arith, ints, low, along); high = omega (arith, ints, high, few) }

edge_stands : (z at : ℤ) → IsEdge z → IsStand at → FitsSigned w32 (z +ℤ at)
edge_stands z at e h = grind (arith, ints, e.low, e.high, h.0, h.1)

edge_back : (z at : ℤ) → IsEdge z → FitsSigned w32 ((z +ℤ at) +ℤ (pos 0 -ℤ at))
edge_back z at e = grind (arith, ints, e.low, e.high)

module _ (frame : Rect) (size : Size) (at : Point) (sides : IsSurfaceSize size) (inside : LiesIn frame size) where
  left : IsEdge frame.left
  left = first_edge frame.left frame.right size.w inside.left inside.across inside.right sides.most_width

  right : IsEdge frame.right
  right = last_edge frame.left frame.right size.w inside.left inside.across inside.right sides.most_width

  top : IsEdge frame.top
  top = first_edge frame.top frame.bottom size.h inside.top inside.down inside.bottom sides.most_height

  bottom : IsEdge frame.bottom
  bottom = last_edge frame.top frame.bottom size.h inside.top inside.down inside.bottom sides.most_height

  pub frame_stands : MayStandAt at → RectMoves at frame
  frame_stands h = record {
    left = edge_stands frame.left at.x left h.0;
    top = edge_stands frame.top at.y top h.1;
    right = edge_stands frame.right at.x right h.0;
    bottom = edge_stands frame.bottom at.y bottom h.1;
  }

  pub frame_can_move : RectMoves (to_origin at) (moved_rect frame at)
  frame_can_move = record {
    left = edge_back frame.left at.x left;
    top = edge_back frame.top at.y top;
    right = edge_back frame.right at.x right;
    bottom = edge_back frame.bottom at.y bottom;
  }

-- a clip within a frame that is seen from there lies in the surface
pub clip_lies_in : (frame asked : Rect) (at : Point) (size : Size) (rects : List Rect) → asked ≡ moved_rect frame at → LiesIn frame size →
    All (LiesWithin (moved_rect asked (to_origin at))) rects → All (λ r. LiesIn r size) rects
clip_lies_in frame asked at size rects e inside within =
    all_lie_in frame size rects inside
    (subst (λ (f : Rect). All (LiesWithin f) rects) (ap (λ (f : Rect). moved_rect f (to_origin at)) e ∙ frame_back frame at) within)

-- what is in it is in the frame
pub in_seen_frame : (frame asked : Rect) (at : Point) → asked ≡ moved_rect frame at → (p : Point) → IsTrue (is_in p (moved_rect asked (to_origin at))) →
    IsIn p frame
in_seen_frame frame asked at e p h =
    (is_in-IsIn p frame).0 (sym (ap (λ (f : Rect). is_in p (moved_rect f (to_origin at))) e ∙ ap (is_in p) (frame_back frame at)) ∙ h)

-- a frame that has points where it is asked for has points
pub stood_points : (frame asked : Rect) (at : Point) → asked ≡ moved_rect frame at → HasPoints asked → HasPoints frame
stood_points frame asked at e h =
    let moved_points : HasPoints (moved_rect frame at) = subst HasPoints e h in
    record { across = omega (arith, ints, moved_points.across); down = omega (arith, ints, moved_points.down) }

-- the source's point of a call that is seen from elsewhere is the call's
pub src_stays : (call : DrawCall) (by from : Point) → PointMovesBack (src_of call) from → PointMovesBack (src_of (moved_call call by)) from
src_stays (Blt c) by from h = h
src_stays (Copy c) by from h = h
src_stays (Paint c) by from h = h

-- the frame of a call that is seen from a point is that of the call's rectangle seen from there
rect_seen : (call : DrawCall) (by : Point) → rect_of (moved_call call by) ≡ moved_rect (rect_of call) by
rect_seen (Blt c) by = refl
rect_seen (Copy c) by = refl
rect_seen (Paint c) by = refl

pub frame_seen : (call seen : DrawCall) (by at : Point) (r frame : Rect) (size : Size) → by ≡ to_origin at → seen ≡ moved_call call by →
    r ≡ rect_of seen → IsFrameOf frame r size → IsFrameOf frame (moved_rect (rect_of call) (to_origin at)) size
frame_seen call seen by at r frame size from moved_so rect common =
    subst (λ (q : Rect). IsFrameOf frame q size)
    (rect ∙ ap rect_of moved_so ∙ rect_seen call by ∙ ap (moved_rect (rect_of call)) from) common

-- the frame of a drawing's rectangle on a surface that stands at a point
module _ (frame r : Rect) (size : Size) (at : Point) (common : IsFrameOf frame (moved_rect r (to_origin at)) size) where
  pub on_surface : (x y : ℕ) → x < size.w → y < size.h → is_in (moved (point_at x y) at) r ≡ is_in (point_at x y) frame
  on_surface x y hx hy =
      let p = point_at x y in
      let there : is_in p (whole size) ≡ true = grind (arith, nat_tests, ints) in
      let seen = moved_rect r (to_origin at) in
      is_in_seen p at r
      ∙ same_tests (is_in p seen) (is_in p frame)
      (λ h. (is_in-IsIn p frame).1 ((common p).1 ((is_in-IsIn p seen).0 h, (is_in-IsIn p (whole size)).0 there)))
      (λ h. (is_in-IsIn p seen).1 ((common p).0 ((is_in-IsIn p frame).0 h)).0)

  -- a drawing whose frame meets the clip reaches a point in it
  pub reaches : (c : DeskCommand) → rect_of c.call ≡ r → LetsThrough c.clip (moved_rect frame at) → Reaches (λ p. area_of c (moved p at)) size
  reaches c e m =
      let p = moved m.point (to_origin at) in
      let held : in_clip c.clip (moved p at) ≡ true = ap (in_clip c.clip) (back_and_there m.point at) ∙ m.held in
      let inside : is_in p frame ≡ true = sym (ap (is_in p) (frame_back frame at)) ∙ sym (is_in_seen p at (moved_rect frame at))
      ∙ ap (λ q. is_in q (moved_rect frame at)) (back_and_there m.point at) ∙ m.inside in
      let h = (common p).0 ((is_in-IsIn p frame).0 inside) in
      record {
        point = p;
        inside = (is_in-IsIn p (whole size)).1 h.1;
        reached = both_true held (ap (is_in (moved p at)) e ∙ is_in_seen p at r ∙ (is_in-IsIn p (moved_rect r (to_origin at))).1 h.0);
      }
