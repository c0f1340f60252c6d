-- What is written tells what was reported.
use Rattle.std.specs.Prelude.{◌≡◌, ℕ, ◌<◌, ◌^◌, ℤ, pos, negsuc, ◌≤ℤ◌, List, ◌++◌, length, All}
use Rattle.std.specs.List.{flat_map}
use Rattle.geom_base.specs.declared.rect.Rect.{Rect}
use Rattle.geom_base.specs.Points.{HasSides}
use Rattle.surf_obj.specs.Surface.{Surface}
use Rattle.script_orders.specs.declared.desk_command.Spot.{Spot}
use Rattle.script_orders.specs.declared.named.Named.{Named}
use Rattle.script_orders.specs.declared.named.Named.TheVariants.{Screen, Bitmap}
use Rattle.desk_span.specs.Desk.{State}
use Rattle.desk_span.specs.Meeting.{IsTarget}
use Rattle.desk_span.specs.Reports.{Told}
use Rattle.desk_run.specs.Entries.{Entry, MayTellAll, commands_of}
use Rattle.desk_run.specs.Run.{out}
use Rattle.desk_run.specs.Texts.{BitmapNames, report_text}

-- a screen's number is one of 64 bits
abbrev pub HasNumber : Named → Type 0
HasNumber (Screen n) = n < 2 ^ 64
HasNumber (Bitmap n) = Unit {0}

-- a coordinate of 32 bits
abbrev pub IsEdge : ℤ → Type 0
IsEdge z = (negsuc 2147483647 ≤ℤ z) × (z ≤ℤ pos 2147483647)

pub record HasEdges (r : Rect) : Type 0 where
  pub left : IsEdge r.left
  pub top : IsEdge r.top
  pub right : IsEdge r.right
  pub bottom : IsEdge r.bottom

-- a report on a target of a drawing, with numbers that the code has
pub record IsReportOn (spot : Spot) (t : Told) : Type 0 where
  pub target : IsTarget spot t.target
  pub number : HasNumber t.target
  pub count : length t.rects < 2 ^ 64
  pub edges : All HasEdges t.rects

-- two reports of command n that are written alike are one report, whatever is written behind them
abbrev pub ReportsAreRead : Type 0
ReportsAreRead = (names : BitmapNames) (n : ℕ) (spot : Spot) (t u : Told) (x y : List ℕ) → IsReportOn spot t → IsReportOn spot u →
    report_text names n t ++ x ≡ report_text names n u ++ y → (t ≡ u) × (x ≡ y)

-- two lists of reports of command n that are written alike are one list
abbrev pub ListsAreRead : Type 0
ListsAreRead = (names : BitmapNames) (n : ℕ) (spot : Spot) (told other : List Told) → All (IsReportOn spot) told → All (IsReportOn spot) other →
    flat_map (report_text names n) told ≡ flat_map (report_text names n) other → told ≡ other

-- two histories of the same commands from one state, whose screens have sides, that are written alike are one history
abbrev pub HistoriesAreRead : Type 0
HistoriesAreRead = (names : BitmapNames) (s : State) (h g : List Entry) → length h < 2 ^ 64 → length s.screens < 2 ^ 64 →
    All (λ (t : Surface). HasSides t.size) s.screens → MayTellAll s h → MayTellAll s g →
    commands_of h ≡ commands_of g → out names h s ≡ out names g s → h ≡ g
