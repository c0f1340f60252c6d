-- Of private calls: what a drawing on a bitmap sees of the screen.
use Rattle.std.specs.Prelude.{◌≡◌, IsTrue, [], ◌∷◌, Option, Some, None, Result, Ok, Err}
use Rattle.geom_base.specs.declared.point.Point.{Point}
use Rattle.geom_base.specs.declared.port_answer.PortAnswer.{PortAnswer}
use Rattle.geom_base.specs.declared.port_answer.PortAnswer.TheVariants as answers
use Rattle.geom_base.specs.declared.size.Size.{Size}
use Rattle.geom_base.specs.Points.{IsIn, whole}
use Rattle.surf_obj.specs.Surface.{Surface}
use Rattle.brush_obj.specs.Calls.{reads_source, source_point}
use Rattle.hook_route.specs.declared.outcome.Cause.{Cause}
use Rattle.hook_route.specs.declared.outcome.Cause.TheVariants as causes
use Rattle.script_orders.specs.declared.desk_command.DeskCommand.{DeskCommand}
use Rattle.desk_span.specs.Desk.{State, area_of, source_at, standing_at}
use Rattle.desk_span.specs.declared.sight.Sight.{Sight}

-- a state of whose screens this part alone is seen, where one is, as it stands at a point
abbrev pub seen_state : State → Option Surface → Point → State
seen_state s None at = record s { places = []; screens = [] }
seen_state s (Some part) at = record s { places = standing_at at part ∷ []; screens = part ∷ [] }

-- what is seen is enough for a drawing on a surface of a size: each point that is drawn has the source there that it has on the desk
pub record Sees (s : State) (c : DeskCommand) (size : Size) (sight : Sight) : Type 0 where
  pub finds : (t : Surface) (p : Point) → IsIn p (whole size) → IsTrue (area_of c p) → IsTrue (reads_source c.call) →
      source_at (seen_state s sight.part sight.at) t c.back c.source (source_point c.call p) ≡ source_at s t c.back c.source (source_point c.call p)

-- why a part wasn't read
abbrev pub cause_of : PortAnswer → Cause
cause_of answers.Fault = causes.Fault
cause_of answers.Done = causes.Memory
cause_of answers.NoMemory = causes.Memory

-- how a reading of a port ended that came to this
abbrev pub answer_of : {A : Type 0} → Result A Cause → PortAnswer
answer_of (Ok a) = answers.Done
answer_of (Err causes.Fault) = answers.Fault
answer_of (Err causes.Memory) = answers.NoMemory
