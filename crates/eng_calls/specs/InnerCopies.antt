-- Inside the crate: copies of parts of targets, on which a call is drawn.
use Rattle.std.specs.Prelude.{◌≡◌, ◌-ℤ◌, IsTrue, List, ◌*◌, ◌⊎◌, Option, Some, is_some, length, option_map}
use Rattle.std.specs.Borrow.{Bor}
use Rattle.std.specs.List.{All}
use Rattle.geom_base.specs.declared.point.Point.{Point}
use Rattle.geom_base.specs.declared.rect.Rect.{Rect}
use Rattle.geom_base.specs.Points.{HasPoints, IsIn, corner_of, height_of, is_in_some, moved_back, moved_rect, sides_of, whole, width_of}
use Rattle.geom_base.specs.Step.{Area, Change, redrawn}
use Rattle.geom_base.specs.declared.size.Size.{Size}
use Rattle.surf_obj.specs.Object.{object_format, object_size, object_values}
use Rattle.surf_obj.specs.Rects.{as_in_at, rect_values}
use Rattle.surf_obj.specs.Surface.{Surface}
use Rattle.surf_obj.specs.View.{view_size}
use Rattle.surf_obj.specs.declared.view.LentView.{LentView}
use Rattle.surf_obj.specs.declared.object.SurfObj.{SurfObj}
use Rattle.brush_obj.specs.Calls.{CopiesSource, IgnoresTarget, reads_source, rect_of, source_point, src_of}
use Rattle.brush_obj.specs.declared.draw_call.DrawCall.{DrawCall}
use Rattle.clip_obj.specs.Clip.{LiesWithin}
use Rattle.copy_port.specs.Given.{Picture, first_of, picture_of_view, points_of}
use Rattle.eng_calls.specs.Copies.{picture_of_copy}
use Rattle.eng_calls.specs.Inputs.{IsGiven, given_of}
use Rattle.eng_calls.specs.declared.copies.PartCopy.{PartCopy}
use Rattle.eng_calls.specs.declared.inputs.Inputs.{Inputs}

-- a surface of the size of a rectangle has what another has there
pub record IsCopyOf (s : Surface) (r : Rect) (copy : SurfObj) : Type 0 where
  pub size : object_size copy ≡ sides_of r
  pub format : object_format copy ≡ s.format
  pub values : object_values copy ≡ rect_values r s.size s.values

-- where a call reads its source, that has the points which belong to those of a rectangle
abbrev pub FindsSources : DrawCall → Option Picture → Rect → Type 0
FindsSources call source r = IsTrue (reads_source call) → (p : Point) → IsIn p r → IsTrue (is_some (points_of source (source_point call p)))

-- a surface of the size of a rectangle on which a call can be drawn in its place: a copy, or any where the call finds its source and ignores
-- what points have
pub record StandsIn (call : DrawCall) (source : Option Picture) (s : Surface) (r : Rect) (pixels : SurfObj) : Type 0 where
  pub size : object_size pixels ≡ sides_of r
  pub format : object_format pixels ≡ s.format
  pub count : length (object_values pixels) ≡ width_of r * height_of r
  pub values : (object_values pixels ≡ rect_values r s.size s.values) ⊎ (IgnoresTarget call × FindsSources call source r)

-- a frame is around the rectangles of a clip, and has points
pub record Frames (frame : Rect) (clip : List Rect) : Type 0 where
  pub points : HasPoints frame
  pub within : All (LiesWithin frame) clip

-- how far a source's point is from the target's point that it belongs to
abbrev pub to_source : DrawCall → Point
to_source call = record { x = (src_of call).x -ℤ (rect_of call).left; y = (src_of call).y -ℤ (rect_of call).top }

-- the inputs with a copy, where there is one, as their source
pub record IsLentAs (part : Option PartCopy) (i lent : Inputs) : Type 0 where
  pub source : option_map picture_of_view lent.source ≡ first_of (option_map picture_of_copy part) (given_of i).source
  pub mask : lent.mask ≡ i.mask
  pub xlate : lent.xlate ≡ i.xlate
  pub table : lent.table ≡ i.table
  pub brush : lent.brush ≡ i.brush

-- a copy of a frame on which a call was drawn: points of the clip that get the values which they have there get those that the call gives them
pub record IsDrawnCopy (s : Surface) (frame : Rect) (clip : List Rect) (new : Change) (pixels : SurfObj) : Type 0 where
  pub size : object_size pixels ≡ sides_of frame
  pub format : object_format pixels ≡ s.format
  pub step : (area : Area) → ((p : Point) → IsTrue (area p) → IsTrue (is_in_some p clip)) →
      redrawn s.size s.values area (as_in_at (corner_of frame) (sides_of frame) (object_values pixels)) ≡ redrawn s.size s.values area new

-- where a source of a size lies, in the coordinates of the target that it is copied to
abbrev pub source_place : DrawCall → Size → Rect
source_place call size = moved_rect (whole size) (moved_back (src_of call) (corner_of (rect_of call)))

-- a source that is lent, which a call copies as it is to all points of a rectangle
pub record IsStraightSource (call : DrawCall) (i : Inputs) (r : Rect) (view : Bor LentView) : Type 0 where
  pub source : i.source ≡ Some view
  pub xlate : IsGiven i.xlate (λ x. (x.now.from ≡ x.now.to) × (x.now.from_table ≡ x.now.to_table))
  pub gives : CopiesSource call
  pub reads : IsTrue (reads_source call)
  pub all : (p : Point) → IsIn p r → IsIn (source_point call p) (whole (view_size view.now))
