-- The coordinates of a script's drawings, and where a screen may stand.
use Rattle.std.specs.Prelude.{ℤ, pos, negsuc, ◌≤ℤ◌}
use Rattle.geom_base.specs.declared.point.Point.{Point}
use Rattle.geom_base.specs.declared.rect.Rect.{Rect}
use Rattle.region.specs.Window.{IsEdge, HasEdges}
use Rattle.brush_obj.specs.declared.draw_call.DrawCall.{DrawCall}
use Rattle.brush_obj.specs.declared.draw_call.DrawCall.TheVariants.{Blt, Copy, Paint}
use Rattle.script_orders.specs.declared.desk_command.Feed.{Feed}
use Rattle.script_orders.specs.declared.desk_command.Feed.TheVariants.{Row}

-- a point of a drawing: its coordinates are those that edges may have
pub record IsPlace (p : Point) : Type 0 where
  pub across : IsEdge p.x
  pub down : IsEdge p.y

-- a rectangle that is drawn: its edges are in order, and have such coordinates
pub record IsDrawn (r : Rect) : Type 0 where
  pub across : r.left ≤ℤ r.right
  pub down : r.top ≤ℤ r.bottom
  pub edges : HasEdges r

-- such are the rectangle and the points of a call
abbrev pub IsPlaced : DrawCall → Type 0
IsPlaced (Blt c) = IsDrawn c.rect × IsPlace c.src × IsPlace c.mask × IsPlace c.origin
IsPlaced (Copy c) = IsDrawn c.rect × IsPlace c.src
IsPlaced (Paint c) = IsDrawn c.rect × IsPlace c.origin

-- and those of each drawing, but of a row of values, which goes as far as there are values
abbrev pub HasPlaces : Feed → DrawCall → Type 0
HasPlaces (Row values) call = Unit {0}
HasPlaces feed call = IsPlaced call

-- a coordinate of a point at which a screen may stand
abbrev pub IsStand : ℤ → Type 0
IsStand z = (negsuc 16383 ≤ℤ z) × (z ≤ℤ pos 16383)

-- a screen may stand at a point
abbrev pub MayStandAt : Point → Type 0
MayStandAt p = IsStand p.x × IsStand p.y
