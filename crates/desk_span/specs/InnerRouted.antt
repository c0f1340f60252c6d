-- Of private calls: a drawing on a screen that its driver or the engine draws.
use Rattle.std.specs.Option.{option_copied, option_to_list}
use Rattle.std.specs.Prelude.{◌≡◌, ◌&&◌, ℕ, List, [], Option, Some, None, IfSome, option_map, slice_index_or, if◌then◌else◌, ◌<◌, ◌^◌, length}
use Rattle.geom_base.specs.declared.target.Target.TheVariants.{Screen}
use Rattle.geom_base.specs.Drawn.{Drawn}
use Rattle.geom_base.specs.Points.{HasPoints, moved}
use Rattle.geom_base.specs.declared.rect.Rect.{Rect}
use Rattle.pix_format.specs.declared.rgb.Rgb.{Rgb}
use Rattle.pix_format.specs.Xlate.{Translation}
use Rattle.surf_obj.specs.Surface.{Surface}
use Rattle.brush_obj.specs.Slots.{Brush}
use Rattle.brush_obj.specs.declared.draw_call.DrawCall.{DrawCall}
use Rattle.brush_obj.specs.declared.draw_call.DrawCall.TheVariants.{Blt, Copy, Paint}
use Rattle.brush_obj.specs.declared.face.BrushFace.{BrushFace}
use Rattle.brush_obj.specs.declared.face.BrushFace.TheVariants as faces
use Rattle.pix_format.specs.Value.{black}
use Rattle.script_orders.specs.declared.desk_command.BrushUse.{BrushUse}
use Rattle.script_orders.specs.declared.desk_command.BrushUse.TheVariants as uses
use Rattle.copy_port.specs.Given.{Asked, Given, picture_of}
use Rattle.hook_route.specs.Routes.{Routed}
use Rattle.copy_port.specs.State.{PortState, drawn_on}
use Rattle.ddi_driver.specs.Slots.{AreRealised}
use Rattle.script_orders.specs.declared.desk_command.DeskCommand.{DeskCommand}
use Rattle.script_orders.specs.declared.desk_command.Feed.{Feed}
use Rattle.script_orders.specs.declared.desk_command.Feed.TheVariants as feeds
use Rattle.script_orders.specs.declared.desk_command.Spot.{Spot}
use Rattle.desk_span.specs.declared.on_screen.Handed.{Handed}
use Rattle.desk_span.specs.InnerBeside.{faces_of, is_own}
use Rattle.desk_span.specs.Desk.{area_of, face_made, new_of}
use Rattle.desk_span.specs.Kept.{Kept, ScreenKept, shown_by_driver, state_by}
use Rattle.hook_route.specs.declared.outcome.Cause.TheVariants.{Memory}
use Rattle.hook_route.specs.declared.outcome.Outcome.{Outcome}
use Rattle.hook_route.specs.declared.outcome.Outcome.TheVariants.{All, Part}
use Rattle.script_orders.specs.declared.named.Named.TheVariants as named
use Rattle.script_orders.specs.declared.orders.FaceOrder.{FaceOrder}
use Rattle.script_orders.specs.declared.script_command.ScriptCommand.TheVariants as asked
use Rattle.desk_span.specs.Drives.{Drives}
use Rattle.desk_span.specs.Reports.{Told, part_of}
use Rattle.desk_span.specs.Telling.{IsReport}
use Rattle.std.specs.List.{All as AllOf}

-- the bitmap that a drawing takes its source from, where that is another than what is drawn on, and the one that is its mask
abbrev pub lent_bitmap : List (Option Surface) → Spot → Feed → Option Surface
lent_bitmap bitmaps spot (feeds.Bitmap n) = if is_own spot (feeds.Bitmap n) then None else slice_index_or bitmaps n None
lent_bitmap bitmaps spot feed = None

abbrev pub mask_bitmap : List (Option Surface) → Option ℕ → Option Surface
mask_bitmap bitmaps None = None
mask_bitmap bitmaps (Some n) = slice_index_or bitmaps n None

-- what a drawing's brush looks like among those that were made
abbrev pub face_among : List BrushFace → BrushUse → BrushFace
face_among brushes uses.Nothing = faces.Solid black
face_among brushes (uses.Colour colour) = faces.Solid colour
face_among brushes (uses.Made n) = slice_index_or brushes n (faces.Solid black)

-- what a driver is handed of a source and a mask that are lent, a translation, its screen's table and a brush
abbrev pub handed : DrawCall → Option Surface → Option Surface → Translation → List Rgb → BrushFace → Given
handed (Blt c) source mask xlate table face = record {
  source = option_map picture_of source;
  mask = option_map picture_of mask;
  xlate = Some xlate;
  table = table;
  brush = Some face;
}
handed (Copy c) source mask xlate table face = record {
  source = option_map picture_of source;
  mask = None;
  xlate = Some xlate;
  table = table;
  brush = None;
}
handed (Paint c) source mask xlate table face = record { source = None; mask = None; xlate = None; table = table; brush = Some face }

abbrev pub handed_with : Handed → BrushFace → Given
handed_with h face = handed h.call.now (option_copied h.source) (option_copied h.mask) h.xlate.now h.table.now face

-- a screen with bitmaps and the brushes for it
abbrev pub kept_with : ScreenKept → List (Option Surface) → List Brush → Kept
kept_with w bitmaps brushes = record { screen = w; bitmaps = bitmaps; brushes = faces_of brushes }

-- a brush that is made, in which no driver has kept anything
abbrev pub brush_made : List (Option Surface) → Rgb → FaceOrder → Brush
brush_made bitmaps back face = record { face = face_made bitmaps back face; slots = [] }

-- a screen as a surface whose values don't count
abbrev pub plate : ScreenKept → Surface
plate w = record { size = w.size; format = w.format; table = w.table; values = [] }

-- the realised forms that drivers keep in a brush are those for a screen
abbrev pub IsFor : ScreenKept → Brush → Type 0
IsFor w brush = AreRealised brush (plate w)

-- a screen after a drawing with this report on it: as `drawn` has it
abbrev pub DrawnByDriver : Kept → DeskCommand → Option Told → PortState → PortState → Type 0
DrawnByDriver k c told before after =
    after.shown ≡ drawn_on Screen (λ p. new_of (state_by k before) c (shown_by_driver before) (moved p k.screen.at))
    (λ p. part_of told p && area_of c (moved p k.screen.at)) before.shown

-- memory was wanting before anything was drawn on screen 0
abbrev pub wanting_there : Told
wanting_there = record { target = named.Screen 0; cause = Memory; rects = [] }

-- what a routed drawing tells of screen 0: nothing where all of it was drawn
abbrev pub routed_report : Outcome → List Rect → Option Told
routed_report All rects = None
routed_report (Part cause) rects = Some (record { target = named.Screen 0; cause = cause; rects = rects })

-- a call was routed with an empty list, and what was pushed onto it is told where not all was drawn
pub record IsRouted (a : Asked) (before after : PortState) (told : Option Told) : Type 0 where
  pub outcome : Outcome
  pub empty : Drawn
  pub drawn : Drawn
  pub routed : Routed a before after empty drawn outcome
  pub each : AllOf HasPoints drawn.rects
  pub few : length drawn.rects < 2 ^ 64
  pub is : told ≡ routed_report outcome drawn.rects

-- what a drawing on the screen of a desk left, with its report if it has one
pub record DrewOn (k : Kept) (c : DeskCommand) (told : Option Told) (before after : PortState) : Type 0 where
  pub shown : DrawnByDriver k c told before after
  pub report : IfSome told (IsReport (state_by k before) c)
  pub drives : Drives (state_by k before) (asked.Draw c) (option_to_list told) 0 before after
