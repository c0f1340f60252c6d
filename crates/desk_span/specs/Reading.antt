-- What is seen of a surface of the desk: its look, and its values as they are read.
use Rattle.std.specs.Prelude.{◌≡◌, ◌≢◌, ◌*◌, ℕ, List, [], length, MatchOption}
use Rattle.geom_base.specs.declared.port_answer.PortAnswer.{PortAnswer}
use Rattle.geom_base.specs.declared.port_answer.PortAnswer.TheVariants.{Done, Fault}
use Rattle.script_orders.specs.declared.named.Named.{Named}
use Rattle.script_orders.specs.declared.named.Named.TheVariants.{Screen, Bitmap}
use Rattle.surf_obj.specs.Surface.{Surface}
use Rattle.desk_span.specs.Desk.{State, surface_at}
use Rattle.desk_span.specs.declared.desk.SurfaceLook.{SurfaceLook}

-- the surface of a name is there, and is so
abbrev pub SurfaceIs : State → Named → (Surface → Type 0) → Type 0
SurfaceIs s q P = MatchOption (surface_at s q) ⊥ P

-- a surface has this size and format, and a value for each of its points
pub record LooksSo (look : SurfaceLook) (t : Surface) : Type 0 where
  pub size : t.size ≡ look.size
  pub format : t.format ≡ look.format
  pub places : length t.values ≡ look.size.w * look.size.h

-- what was read of a surface: with Done its values, and with each other answer nothing
abbrev pub IsRead : PortAnswer → List ℕ → Surface → Type 0
IsRead Done out t = out ≡ t.values
IsRead answer out t = out ≡ []

-- no read of a bitmap faults
abbrev pub IsFaultless : Named → PortAnswer → Type 0
IsFaultless (Screen n) answer = Unit {0}
IsFaultless (Bitmap n) answer = answer ≢ Fault
