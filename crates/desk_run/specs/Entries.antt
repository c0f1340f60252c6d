-- Commands that were carried out one after the other, with their reports.
use Rattle.std.specs.Prelude.{Bool, List, [], ◌∷◌, length, map, ◌==◌}
use Rattle.std.specs.List.{list_all, list_any}
use Rattle.script_orders.specs.declared.script_command.ScriptCommand.{ScriptCommand}
use Rattle.desk_span.specs.Desk.{State, carried}
use Rattle.desk_span.specs.Reports.{Told, tells_fault}
use Rattle.desk_span.specs.Telling.{MayTell}

-- a command that was carried out, with its reports
pub record Entry : Type 0 where
  pub command : ScriptCommand
  pub told : List Told

abbrev pub commands_of : List Entry → List ScriptCommand
commands_of = map (λ (e : Entry). e.command)

-- the state after these commands with these reports
abbrev pub run : List Entry → State → State
run [] s = s
run (e ∷ es) s = run es (carried e.command e.told s)

-- each command has reports that it may have, in the state before it
abbrev pub MayTellAll : State → List Entry → Type 0
MayTellAll s [] = Unit {0}
MayTellAll s (e ∷ es) = MayTell s e.command e.told × MayTellAll (carried e.command e.told s) es

-- nothing was reported; and a fault was
abbrev pub is_whole : List Entry → Bool
is_whole h = list_all (λ (e : Entry). length e.told == 0) h

abbrev pub any_fault : List Entry → Bool
any_fault h = list_any (λ (e : Entry). tells_fault e.told) h
