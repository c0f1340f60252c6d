-- Laws of places: wherever a screen stands, what a script draws there can be moved, and a driver may be asked for it.
use Rattle.std.specs.Prelude.{ℤ, pos, negsuc, ◌+ℤ◌, ◌-ℤ◌, ◌≤ℤ◌}
use Rattle.std.proofs.Common.{FitsSigned, w32, arith}
use Rattle.std.proofs.lemmas.Int.{ints}
use Rattle.geom_base.specs.declared.point.Point.{Point}
use Rattle.geom_base.specs.declared.rect.Rect.{Rect}
use Rattle.geom_base.specs.Points.{RectMoves, moved, moved_back, moved_rect}
use Rattle.region.specs.Window.{IsEdge}
use Rattle.brush_obj.specs.Calls.{CallMoves, PointMoves, PointMovesBack}
use Rattle.brush_obj.specs.declared.draw_call.DrawCall.{DrawCall}
use Rattle.brush_obj.specs.declared.draw_call.DrawCall.TheVariants.{Blt, Copy, Paint}
use Rattle.script_orders.specs.Places.{IsPlace, IsDrawn, IsPlaced, MayStandAt}

-- how far what is drawn on a screen is moved, by the point at which it stands, or back
abbrev pub IsStep : ℤ → Type 0
IsStep z = (negsuc 16383 ≤ℤ z) × (z ≤ℤ pos 16384)

abbrev pub IsShift : Point → Type 0
IsShift by = IsStep by.x × IsStep by.y

-- a coordinate that a driver may be asked for; a point with such coordinates, and a rectangle whose edges are in order and have them
abbrev pub IsInReach : ℤ → Type 0
IsInReach z = (negsuc 16777215 ≤ℤ z) × (z ≤ℤ pos 16777215)

abbrev pub PointInReach : Point → Type 0
PointInReach p = IsInReach p.x × IsInReach p.y

pub record RectInReach (r : Rect) : Type 0 where
  pub across : r.left ≤ℤ r.right
  pub down : r.top ≤ℤ r.bottom
  pub left : IsInReach r.left
  pub top : IsInReach r.top
  pub right : IsInReach r.right
  pub bottom : IsInReach r.bottom

-- a screen moves by its point, and back
pub stand_shifts : (at : Point) → MayStandAt at → IsShift at
stand_shifts at h = ((h.0.0, omega (arith, ints, h.0.1)), (h.1.0, omega (arith, ints, h.1.1)))

pub stand_shifts_back : (at : Point) → MayStandAt at → IsShift (record { x = pos 0 -ℤ at.x; y = pos 0 -ℤ at.y })
stand_shifts_back at h = (
  (omega (arith, ints, h.0.1), omega (arith, ints, h.0.0)),
  (omega (arith, ints, h.1.1), omega (arith, ints, h.1.0)),
)

-- a coordinate as it stands, moved and moved back
low : (z : ℤ) → IsEdge z → negsuc 32767 ≤ℤ z
low z h = h.least

high : (z : ℤ) → IsEdge z → z ≤ℤ pos 32767
high z h = h.greatest

reach : (z : ℤ) → IsEdge z → IsInReach z
reach z h = (omega (arith, ints, low z h), omega (arith, ints, high z h))

reach_moved : (z by : ℤ) → IsEdge z → IsStep by → IsInReach (z +ℤ by)
reach_moved z by h s = (omega (arith, ints, low z h, s.0), omega (arith, ints, high z h, s.1))

reach_back : (z by : ℤ) → IsEdge z → IsStep by → IsInReach (z -ℤ by)
reach_back z by h s = (omega (arith, ints, low z h, s.1), omega (arith, ints, high z h, s.0))

fits_reach : (z : ℤ) → IsInReach z → FitsSigned w32 z
fits_reach z h = grind (arith, ints, h.0, h.1)

-- a place
pub place_in_reach : (p : Point) → IsPlace p → PointInReach p
place_in_reach p h = (reach p.x h.across, reach p.y h.down)

pub place_moved : (p by : Point) → IsPlace p → IsShift by → PointInReach (moved p by)
place_moved p by h s = (reach_moved p.x by.x h.across s.0, reach_moved p.y by.y h.down s.1)

pub place_moved_back : (p by : Point) → IsPlace p → IsShift by → PointInReach (moved_back by p)
place_moved_back p by h s = (reach_back p.x by.x h.across s.0, reach_back p.y by.y h.down s.1)

pub place_moves : (p by : Point) → IsPlace p → IsShift by → PointMoves p by
place_moves p by h s = let e = place_moved p by h s in record { across = fits_reach _ e.0; down = fits_reach _ e.1 }

pub place_moves_back : (p by : Point) → IsPlace p → IsShift by → PointMovesBack p by
place_moves_back p by h s = let e = place_moved_back p by h s in record { across = fits_reach _ e.0; down = fits_reach _ e.1 }

-- a rectangle that is drawn
pub drawn_in_reach : (r : Rect) → IsDrawn r → RectInReach r
drawn_in_reach r h = record {
  across = h.across;
  down = h.down;
  left = reach r.left h.edges.left;
  top = reach r.top h.edges.top;
  right = reach r.right h.edges.right;
  bottom = reach r.bottom h.edges.bottom;
}

pub drawn_moved : (r : Rect) (by : Point) → IsDrawn r → IsShift by → RectInReach (moved_rect r by)
drawn_moved r by h s = record {
  across = omega (arith, ints, h.across);
  down = omega (arith, ints, h.down);
  left = reach_moved r.left by.x h.edges.left s.0;
  top = reach_moved r.top by.y h.edges.top s.1;
  right = reach_moved r.right by.x h.edges.right s.0;
  bottom = reach_moved r.bottom by.y h.edges.bottom s.1;
}

pub drawn_moves : (r : Rect) (by : Point) → IsDrawn r → IsShift by → RectMoves by r
drawn_moves r by h s =
    let e = drawn_moved r by h s in
    record { left = fits_reach _ e.left; top = fits_reach _ e.top; right = fits_reach _ e.right; bottom = fits_reach _ e.bottom }

-- a call
pub call_moves : (call : DrawCall) (by : Point) → IsPlaced call → IsShift by → CallMoves call by
call_moves (Blt c) by (rect, src, mask, origin) s = (drawn_moves c.rect by rect s, place_moves c.origin by origin s)
call_moves (Copy c) by (rect, src) s = drawn_moves c.rect by rect s
call_moves (Paint c) by (rect, origin) s = (drawn_moves c.rect by rect s, place_moves c.origin by origin s)
