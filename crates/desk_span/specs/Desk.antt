-- The state of a desk, and one command on it.
use Rattle.std.specs.Prelude.{ℕ, ◌*◌, ◌+◌, ◌-ℤ◌, Bool, true, false, List, [], ◌∷◌, ◌++◌, length, map, replicate}
use Rattle.std.specs.Prelude.{slice_get, slice_index_or, slice_set, Option, Some, None, option_map, unwrap_or, ◌&&◌, if◌then◌else◌}
use Rattle.geom_base.specs.declared.point.Point.{Point}
use Rattle.geom_base.specs.declared.rect.Rect.{Rect}
use Rattle.geom_base.specs.declared.size.Size.{Size}
use Rattle.geom_base.specs.Points.{is_in, is_in_some, moved, whole}
use Rattle.pix_format.specs.declared.format.Format.{Format}
use Rattle.pix_format.specs.declared.format.Format.TheVariants.{B8}
use Rattle.pix_format.specs.declared.rgb.Rgb.{Rgb}
use Rattle.pix_format.specs.Standard.{standard_colours}
use Rattle.pix_format.specs.Value.{black}
use Rattle.pix_format.specs.Xlate.{Translation}
use Rattle.geom_base.specs.Step.{Area, Change}
use Rattle.surf_obj.specs.Surface.{Surface, changed}
use Rattle.brush_obj.specs.Brush.{tiled}
use Rattle.brush_obj.specs.Calls.{Operands, as_kept, new_of_call, not_there, reach_of_call, shown}
use Rattle.brush_obj.specs.Image.{Image}
use Rattle.brush_obj.specs.declared.face.BrushFace.{BrushFace}
use Rattle.brush_obj.specs.declared.face.BrushFace.TheVariants as faces
use Rattle.script_orders.specs.Live.{Live, Look}
use Rattle.script_orders.specs.Rows.{zero_point}
use Rattle.script_orders.specs.declared.desk_command.BrushUse.{BrushUse}
use Rattle.script_orders.specs.declared.desk_command.BrushUse.TheVariants as uses
use Rattle.script_orders.specs.declared.desk_command.DeskCommand.{DeskCommand}
use Rattle.script_orders.specs.declared.desk_command.Feed.{Feed}
use Rattle.script_orders.specs.declared.desk_command.Feed.TheVariants as feeds
use Rattle.script_orders.specs.declared.desk_command.Spot.{Spot}
use Rattle.script_orders.specs.declared.desk_command.Spot.TheVariants as spots
use Rattle.script_orders.specs.declared.named.Named.{Named}
use Rattle.script_orders.specs.declared.named.Named.TheVariants.{Screen, Bitmap}
use Rattle.script_orders.specs.declared.orders.FaceOrder.{FaceOrder}
use Rattle.script_orders.specs.declared.orders.FaceOrder.TheVariants.{Solid, Hatch, Pattern}
use Rattle.script_orders.specs.declared.script_command.ScriptCommand.{ScriptCommand}
use Rattle.script_orders.specs.declared.script_command.ScriptCommand.TheVariants.{Create, Delete, Brush, Draw, Dump, Sum, Nothing}
use Rattle.desk_span.specs.Reports.{Told, report_on, part_of}

-- where a screen stands: the point of the desk that its first point is, and what its surface looks like
pub record ScreenAt : Type 0 where
  pub at : Point
  pub look : Look

-- the screens in their order, where each stands and what it shows; the bitmaps in the order in which they were made, none where one is gone;
-- and the brushes in theirs
pub record State : Type 0 where
  pub places : List ScreenAt
  pub screens : List Surface
  pub bitmaps : List (Option Surface)
  pub brushes : List BrushFace

-- a surface whose values are all 0
abbrev pub blank : Size → Format → List Rgb → Surface
blank size format table = record { size = size; format = format; table = table; values = replicate (size.w * size.h) 0 }

-- a surface that looks so
abbrev pub look_of : Surface → Look
look_of t = record { size = t.size; format = t.format }

-- a screen that stands at a point
abbrev pub standing_at : Point → Surface → ScreenAt
standing_at at t = record { at = at; look = look_of t }

-- before the first command
abbrev pub first_state : Size → State
first_state size =
    let screen = blank size B8 (standard_colours B8) in
    record { places = standing_at zero_point screen ∷ []; screens = screen ∷ []; bitmaps = []; brushes = [] }

-- what is there
abbrev pub live_of : State → Live
live_of s = record { bitmaps = map (option_map look_of) s.bitmaps; brushes = length s.brushes }

abbrev pub bitmap_at : State → ℕ → Option Surface
bitmap_at s n = slice_index_or s.bitmaps n None

-- the surface of a name, where it is there
abbrev pub surface_at : State → Named → Option Surface
surface_at s (Screen n) = slice_get s.screens n
surface_at s (Bitmap n) = bitmap_at s n

-- a row of values as a surface of one row that looks like another
abbrev pub row_like : Surface → List ℕ → Surface
row_like t values = record { size = record { w = length values; h = 1 }; format = t.format; table = t.table; values = values }

abbrev pub mask_surface : State → Option ℕ → Option Surface
mask_surface s None = None
mask_surface s (Some n) = bitmap_at s n

-- what a drawing's brush looks like; one that isn't there is black
abbrev pub face_of : State → BrushUse → BrushFace
face_of s uses.Nothing = faces.Solid black
face_of s (uses.Colour colour) = faces.Solid colour
face_of s (uses.Made n) = slice_index_or s.brushes n (faces.Solid black)

-- the values of a surface, or none where there is no surface
abbrev pub shown_by : Option Surface → Point → Option ℕ
shown_by (Some s) = shown s.size s.values
shown_by None = not_there

-- the translation from one surface to another
abbrev pub translation : Surface → Surface → Rgb → Translation
translation s t back = record { from = s.format; from_table = s.table; to = t.format; to_table = t.table; back = back }

-- the values of a surface as a surface t keeps them, or none where there is no surface
abbrev pub kept_by : Surface → Rgb → Option Surface → Point → Option ℕ
kept_by t back (Some s) = as_kept (translation s t back) (shown s.size s.values)
kept_by t back None = not_there

-- a point of the desk as a screen counts its points, and whether the screen has it
abbrev pub on_screen : ScreenAt → Point → Point
on_screen w p = record { x = p.x -ℤ w.at.x; y = p.y -ℤ w.at.y }

abbrev pub has_point : ScreenAt → Point → Bool
has_point w p = is_in (on_screen w p) (whole w.look.size)

-- the value at a point of the desk: that of the first screen that has the point
abbrev pub kept_on_desk : Surface → Rgb → List ScreenAt → List Surface → Point → Option ℕ
kept_on_desk t back [] screens p = None
kept_on_desk t back (w ∷ places) [] p = None
kept_on_desk t back (w ∷ places) (s ∷ screens) p =
    if has_point w p then kept_by t back (Some s) (on_screen w p) else kept_on_desk t back places screens p

-- the source of a drawing on a surface, as it was before the command
abbrev pub source_at : State → Surface → Rgb → Feed → Point → Option ℕ
source_at s t back feeds.Nothing = not_there
source_at s t back feeds.Desk = kept_on_desk t back s.places s.screens
source_at s t back (feeds.Bitmap n) = kept_by t back (bitmap_at s n)
source_at s t back (feeds.Row values) = kept_by t back (Some (row_like t values))

-- what a drawing on a surface draws with
abbrev pub operands_of : State → DeskCommand → Surface → Operands
operands_of s c t = record {
  source = source_at s t c.back c.source;
  clear = λ p. false;
  mask = shown_by (mask_surface s c.mask);
  pattern = tiled (face_of s c.brush) t.format t.table;
  format = t.format;
}

-- the new value of a surface that is drawn on, at a point in the drawing's own coordinates, by the state before the command
abbrev pub new_of : State → DeskCommand → Surface → Change
new_of s c t = new_of_call c.call (operands_of s c t)

-- the points that a clip lets through: those of its rectangles, or all where there is no clip
abbrev pub in_clip : Option (List Rect) → Point → Bool
in_clip (Some rects) p = is_in_some p rects
in_clip None p = true

-- the points that a drawing reaches in its clip, in its own coordinates
abbrev pub area_of : DeskCommand → Area
area_of c p = in_clip c.clip p && reach_of_call c.call p

-- a target's point in the coordinates of a drawing on it: on a screen those are the desk's
abbrev pub first_point : State → ℕ → Point
first_point s n = slice_index_or (map (λ (w : ScreenAt). w.at) s.places) n zero_point

abbrev pub asked_point : State → Named → Point → Point
asked_point s (Screen n) p = moved p (first_point s n)
asked_point s (Bitmap n) p = p

-- a target after a drawing with these reports: each point that the call reaches in the clip has its new value, all at once; of a target with
-- a report only the points that the report names
abbrev pub drawn : State → DeskCommand → List Told → Named → Surface → Surface
drawn s c told q t =
    changed (λ p. new_of s c t (asked_point s q p)) (λ p. part_of (report_on told q) p && area_of c (asked_point s q p)) t

-- the screens after a drawing on each, the first of these being number n
abbrev pub drawn_screens : State → DeskCommand → List Told → ℕ → List Surface → List Surface
drawn_screens s c told n [] = []
drawn_screens s c told n (t ∷ screens) = drawn s c told (Screen n) t ∷ drawn_screens s c told (n + 1) screens

-- the desk after a drawing
abbrev pub drawn_on : State → DeskCommand → List Told → Spot → State
drawn_on s c told spots.Desk = record s { screens = drawn_screens s c told 0 s.screens }
drawn_on s c told (spots.Bitmap n) = record s { bitmaps = slice_set s.bitmaps n (option_map (drawn s c told (Bitmap n)) (bitmap_at s n)) }

-- a surface as the image of a pattern, with the background colour in force
abbrev pub image_of : Surface → Rgb → Image
image_of t back = record { size = t.size; format = t.format; table = t.table; values = t.values; back = back }

-- what a brush is made of beside the bitmaps of then; a pattern that isn't there is black
abbrev pub face_made : List (Option Surface) → Rgb → FaceOrder → BrushFace
face_made bitmaps back (Solid colour) = faces.Solid colour
face_made bitmaps back (Hatch kind fore other) = faces.Hatch kind fore other
face_made bitmaps back (Pattern n) =
    unwrap_or (option_map (λ (t : Surface). faces.Pattern (image_of t back)) (slice_index_or bitmaps n None)) (faces.Solid black)

-- the desk after a command with these reports
abbrev pub carried : ScriptCommand → List Told → State → State
carried (Create o) told s = record s { bitmaps = s.bitmaps ++ Some (blank o.size o.format o.table) ∷ [] }
carried (Delete n) told s = record s { bitmaps = slice_set s.bitmaps n None }
carried (Brush o) told s = record s { brushes = s.brushes ++ face_made s.bitmaps o.back o.face ∷ [] }
carried (Draw c) told s = drawn_on s c told c.target
carried (Dump q) told s = s
carried (Sum q) told s = s
carried Nothing told s = s
