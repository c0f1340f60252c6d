-- In which order the rectangles of a call are drawn whose source is the target itself.
use Rattle.std.specs.Prelude.{◌≡◌, true, false, if◌then◌else◌, int_lt}
use Rattle.geom_base.specs.declared.point.Point.{Point}
use Rattle.geom_base.specs.declared.rect.Rect.{Rect}
use Rattle.geom_base.specs.Points.{is_in}
use Rattle.brush_obj.specs.Calls.{point_across}
use Rattle.clip_obj.specs.declared.direction.Direction.{Direction}
use Rattle.clip_obj.specs.declared.direction.Direction.TheVariants.{RightDown, LeftDown, RightUp, LeftUp}
use Rattle.clip_obj.specs.Order.{ComesBefore}

-- the first direction where the source lies to the left, else the second
abbrev pub sideways_of : Rect → Point → Direction → Direction → Direction
sideways_of rect src left right = if int_lt src.x rect.left then left else right

-- upwards where the source lies above the target, and to the left where it lies to the left of it
abbrev pub direction_of : Rect → Point → Direction
direction_of rect src = if int_lt src.y rect.top then sideways_of rect src LeftUp RightUp else sideways_of rect src LeftDown RightDown

-- no source point of a second rectangle lies in a first
abbrev pub SparesSource : Rect → Point → Rect → Rect → Type 0
SparesSource rect src a b = (p : Point) → is_in p b ≡ true → is_in (point_across rect src p) a ≡ false

-- so it is with any two rectangles in that order
abbrev pub ShiftsAreInOrder : Type 0
ShiftsAreInOrder = (rect : Rect) (src : Point) (a b : Rect) → ComesBefore (direction_of rect src) a b → SparesSource rect src a b
