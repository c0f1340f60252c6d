-- The reports that a drawing may have.
use Rattle.std.specs.Prelude.{◌≡◌, ◌<◌, ◌^◌, Bool, false, nat_lt, IsTrue, All, List, [], ◌∷◌, length}
use Rattle.geom_base.specs.declared.point.Point.{Point}
use Rattle.geom_base.specs.declared.rect.Rect.{Rect}
use Rattle.geom_base.specs.declared.size.Size.{Size}
use Rattle.geom_base.specs.Points.{HasPoints, LiesIn, is_in}
use Rattle.brush_obj.specs.Calls.{reach_of_call}
use Rattle.script_orders.specs.declared.desk_command.DeskCommand.{DeskCommand}
use Rattle.script_orders.specs.declared.named.Named.{Named}
use Rattle.script_orders.specs.declared.named.Named.TheVariants.{Screen, Bitmap}
use Rattle.script_orders.specs.declared.script_command.ScriptCommand.{ScriptCommand}
use Rattle.script_orders.specs.declared.script_command.ScriptCommand.TheVariants.{Draw, Dump, Sum}
use Rattle.hook_route.specs.declared.outcome.Cause.{Cause}
use Rattle.hook_route.specs.declared.outcome.Cause.TheVariants.{Memory}
use Rattle.desk_span.specs.declared.reports.DeskOutcome.{DeskOutcome}
use Rattle.desk_span.specs.declared.reports.DeskOutcome.TheVariants as outcomes
use Rattle.desk_span.specs.Desk.{State, asked_point}
use Rattle.desk_span.specs.Meeting.{Meets}
use Rattle.desk_span.specs.Reading.{SurfaceIs}
use Rattle.desk_span.specs.Reports.{Told}

-- one screen comes before another
abbrev pub comes_before : Named → Named → Bool
comes_before (Screen m) (Screen n) = nat_lt m n
comes_before p q = false

-- the targets come in the order of the screens, and none comes twice
abbrev pub AreInOrder : List Told → Type 0
AreInOrder [] = Unit {0}
AreInOrder (t ∷ told) = All (λ (u : Told). IsTrue (comes_before t.target u.target)) told × AreInOrder told

-- a rectangle that was done has points, and lies in the target and in what the call reaches there
pub record IsPart (s : State) (c : DeskCommand) (q : Named) (size : Size) (r : Rect) : Type 0 where
  pub some : HasPoints r
  pub inside : LiesIn r size
  pub reached : (p : Point) → IsTrue (is_in p r) → IsTrue (reach_of_call c.call (asked_point s q p))

-- a bitmap is drawn on whole or not at all
abbrev pub IsUndrawn : Named → List Rect → Type 0
IsUndrawn (Screen n) rects = Unit {0}
IsUndrawn (Bitmap n) rects = rects ≡ []

-- a report is on a target that the drawing meets, and names parts of it, as many as a number of 64 bits can say
pub record IsReport (s : State) (c : DeskCommand) (t : Told) : Type 0 where
  pub meets : Meets s c t.target
  pub few : length t.rects < 2 ^ 64
  pub parts : All (IsPart s c t.target meets.surface.size) t.rects
  pub undrawn : IsUndrawn t.target t.rects

-- the reports of a drawing
pub record AreReports (s : State) (c : DeskCommand) (told : List Told) : Type 0 where
  pub order : AreInOrder told
  pub each : All (IsReport s c) told

-- a drawing was done whole where there is no report
abbrev pub TellsAs : DeskOutcome → List Told → Type 0
TellsAs outcomes.All told = told ≡ []
TellsAs outcomes.Parted told = (t : Told) × (rest : List Told) × (told ≡ t ∷ rest)

-- why a surface may not be read: a bitmap only for want of memory
abbrev pub IsUnreadCause : Named → Cause → Type 0
IsUnreadCause (Screen n) cause = Unit {0}
IsUnreadCause (Bitmap n) cause = cause ≡ Memory

-- a report that a surface, which is there, could not be read
pub record IsUnread (s : State) (q : Named) (t : Told) : Type 0 where
  pub there : SurfaceIs s q (λ surface. Unit {0})
  pub target : t.target ≡ q
  pub cause : IsUnreadCause q t.cause
  pub nothing : t.rects ≡ []

-- the reports that a read may have: none, or the one that it could not be done
abbrev pub ReadTells : State → Named → List Told → Type 0
ReadTells s q [] = Unit {0}
ReadTells s q (t ∷ told) = IsUnread s q t × (told ≡ [])

-- the reports that a command may have: those of a drawing, or that of a read; no other has any
abbrev pub MayTell : State → ScriptCommand → List Told → Type 0
MayTell s (Draw c) told = AreReports s c told
MayTell s (Dump q) told = ReadTells s q told
MayTell s (Sum q) told = ReadTells s q told
MayTell s command told = told ≡ []
