-- Copies of the parts of targets that sources which are held have for a frame.
use Rattle.std.specs.Prelude.{◌≡◌, ◌≤ℤ◌, pos, IsTrue, IfSome, Option, Some, None, Result, Ok, Err, option_map}
use Rattle.geom_base.specs.declared.point.Point.{Point}
use Rattle.geom_base.specs.declared.port_answer.PortAnswer.{PortAnswer}
use Rattle.geom_base.specs.declared.port_answer.PortAnswer.TheVariants.{Done}
use Rattle.geom_base.specs.declared.rect.Rect.{Rect}
use Rattle.geom_base.specs.Points.{IsIn, LiesIn, most_side, moved_back}
use Rattle.geom_base.specs.declared.target.Target.{Target}
use Rattle.surf_obj.specs.Object.{object_format, object_size, object_values}
use Rattle.brush_obj.specs.Calls.{reads_source, shown, source_point}
use Rattle.brush_obj.specs.declared.draw_call.DrawCall.{DrawCall}
use Rattle.copy_port.specs.Given.{Picture, held_in, points_of}
use Rattle.copy_port.specs.State.{Shown, surface_of}
use Rattle.eng_calls.specs.declared.copies.PartCopy.{PartCopy}

-- how a step ends
abbrev pub ended : {A : Type 0} → Result A PortAnswer → PortAnswer
ended (Ok a) = Done
ended (Err answer) = answer

-- a copy as a picture
abbrev pub picture_of_copy : PartCopy → Picture
picture_of_copy copy = record { format = object_format copy.pixels; at = shown (object_size copy.pixels) (object_values copy.pixels) }

-- a rectangle lies on a surface, whichever it is
abbrev pub LiesOnTarget : Rect → Type 0
LiesOnTarget r = LiesIn r (record { w = most_side; h = most_side })

-- where a copy begins; without one it doesn't matter
abbrev pub begins_at : Option PartCopy → Point
begins_at (Some copy) = copy.corner
begins_at None = record { x = pos 0; y = pos 0 }

-- a point counts columns and rows of a surface
pub record IsPlace (p : Point) : Type 0 where
  pub column : (pos 0 ≤ℤ p.x) × (p.x ≤ℤ pos most_side)
  pub row : (pos 0 ≤ℤ p.y) × (p.y ≤ℤ pos most_side)

-- a copy of a part of a source that is held, or none, stands for it where a call reads it for the points of a frame; without a source that is
-- held there is none
pub record IsHeldPart (held : Target) (call : DrawCall) (targets : Shown) (frame : Rect) (part : Option PartCopy) : Type 0 where
  pub place : IsPlace (begins_at part)
  pub format : IfSome part (λ copy. object_format copy.pixels ≡ (surface_of targets held).format)
  pub points : IsTrue (reads_source call) → (p : Point) → IsIn p frame →
      points_of (option_map picture_of_copy part) (moved_back (begins_at part) (source_point call p)) ≡ points_of (held_in (Some held) targets) (source_point call p)

abbrev pub HeldFor : Option Target → DrawCall → Shown → Rect → Option PartCopy → Type 0
HeldFor None call targets frame part = part ≡ None
HeldFor (Some held) call targets frame part = IsHeldPart held call targets frame part
