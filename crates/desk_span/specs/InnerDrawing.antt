-- Of private calls: what a surface of the desk is drawn on with, as it is handed on.
use Rattle.std.specs.Prelude.{ℕ, Bool, List, Option, Some, None, if◌then◌else◌, unwrap_or}
use Rattle.std.specs.Option.{option_copied}
use Rattle.geom_base.specs.declared.size.Size.{Size}
use Rattle.geom_base.specs.declared.target.Target.{Target}
use Rattle.pix_format.specs.declared.format.Format.{Format}
use Rattle.pix_format.specs.Xlate.{Translation}
use Rattle.surf_obj.specs.Surface.{Surface}
use Rattle.surf_obj.specs.View.{view_size, view_format, view_values}
use Rattle.surf_obj.specs.declared.view.LentView.{LentView}
use Rattle.brush_obj.specs.Brush.{tiled}
use Rattle.brush_obj.specs.Calls.{Operands, blt_operands}
use Rattle.brush_obj.specs.declared.draw_call.DrawCall.{DrawCall}
use Rattle.brush_obj.specs.declared.draw_call.DrawCall.TheVariants.{Blt, Copy, Paint}
use Rattle.desk_span.specs.declared.inputs.PaneInputs.{PaneInputs}
use Rattle.desk_span.specs.Desk.{shown_by, translation}

-- the surface that is a call's source: the one that is handed; else the one that is drawn on, where the call holds it
abbrev pub source_held : Option Surface → Option Target → Surface → Option Surface
source_held (Some s) held t = Some s
source_held None (Some target) t = Some t
source_held None None t = None

-- the operands of a call that holds this, from these inputs
abbrev pub operands_with : Surface → Option Target → PaneInputs → Operands
operands_with t held i =
    let xlate = translation (unwrap_or (option_copied i.source) t) t i.back in
    let pattern = tiled i.brush.now.face t.format t.table in
    blt_operands (shown_by (source_held (option_copied i.source) held t)) (shown_by (option_copied i.mask)) xlate pattern t.format

-- the translation for a call, where it has a source
abbrev pub translation_for : DrawCall → Translation → Option Translation
translation_for (Paint c) xlate = None
translation_for call xlate = Some xlate

-- the target that a call holds where its target is its own source
abbrev pub held_for : Bool → Target → Option Target
held_for own target = if own then Some target else None

-- the call, which holds its target where that is its own source
abbrev pub holding : Bool → DrawCall → DrawCall
holding own (Blt c) = Blt (record c { held = held_for own c.target })
holding own (Copy c) = Copy (record c { held = held_for own c.target })
holding own (Paint c) = Paint c

-- what is seen of a view, and of a surface
abbrev pub Seen : Type 0
Seen = Size × Format × List ℕ

abbrev pub seen_of_view : LentView → Seen
seen_of_view v = (view_size v, view_format v, view_values v)

abbrev pub seen_of : Surface → Seen
seen_of s = (s.size, s.format, s.values)
