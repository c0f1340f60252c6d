-- What one command leaves of a desk and of the driver of its screen.
use Rattle.std.specs.Prelude.{◌≡◌, List, []}
use Rattle.copy_port.specs.State.{PortState}
use Rattle.script_orders.specs.declared.script_command.ScriptCommand.{ScriptCommand}
use Rattle.desk_span.specs.Desk.{carried}
use Rattle.desk_span.specs.Drives.{Drives}
use Rattle.desk_span.specs.Kept.{Kept, Serves, state_by}
use Rattle.desk_span.specs.Reports.{Told}
use Rattle.desk_span.specs.Telling.{MayTell}

-- a command that asks nothing of any driver, whatever that shows
pub record Alters (k l : Kept) (command : ScriptCommand) : Type 0 where
  pub screen : l.screen ≡ k.screen
  pub shows : (driver : PortState) → state_by l driver ≡ carried command [] (state_by k driver)

-- a command with its reports: what the desk shows then, what may be told, and what it leaves of the driver, which still serves the screen
pub record Carries (k l : Kept) (command : ScriptCommand) (told : List Told) (before after : PortState) : Type 0 where
  pub screen : l.screen ≡ k.screen
  pub serves : Serves l.screen after
  pub shows : state_by l after ≡ carried command told (state_by k before)
  pub tells : MayTell (state_by k before) command told
  pub drives : Drives (state_by k before) command told 0 before after
