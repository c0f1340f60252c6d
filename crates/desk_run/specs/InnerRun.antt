-- Of private calls: one command that is carried out.
use Rattle.std.specs.Prelude.{◌≡◌, ℕ, Bool, true, false, List, [], ◌∷◌, Option, Some, None, Result, Ok, Err}
use Rattle.std.specs.declared.alloc.AllocError.{AllocError}
use Rattle.geom_base.specs.declared.port_answer.PortAnswer.{PortAnswer}
use Rattle.geom_base.specs.declared.port_answer.PortAnswer.TheVariants as answers
use Rattle.desk_io.specs.declared.sink.WriteFault.{WriteFault}
use Rattle.script_orders.specs.declared.script_command.ScriptCommand.{ScriptCommand}
use Rattle.desk_run.specs.declared.run.Ended.{Ended}
use Rattle.desk_run.specs.declared.run.Ended.TheVariants.{Done, FaultSeen, MemorySeen}
use Rattle.desk_run.specs.declared.run.Outcome.{Outcome}
use Rattle.desk_run.specs.declared.run.Outcome.TheVariants.{Whole, Wanting, Faulted, Lacking, Broken}
use Rattle.copy_port.specs.State.{PortState}
use Rattle.desk_span.specs.Kept.{Kept}
use Rattle.desk_span.specs.Reports.{Told, tells_fault}
use Rattle.hook_route.specs.declared.outcome.Cause.{Cause}
use Rattle.hook_route.specs.declared.outcome.Cause.TheVariants as causes
use Rattle.desk_run.specs.Run.{Carried, Makes}
use Rattle.desk_run.specs.Texts.{BitmapNames}

-- What carrying out a command gave: it is done, without reports, or with some, of a fault or of want of memory alone; or memory was lacking for
-- what it makes; or the sink failed.
abbrev pub CameOut : BitmapNames → ℕ → ScriptCommand → Kept → Kept → PortState → PortState → Option (List ℕ) → Option (List ℕ) → ℕ → ℕ → Outcome → Type 0
CameOut names n command k l from to old new x y Whole = Carried names n command [] k l from to old new x y false
CameOut names n command k l from to old new x y Wanting =
    (first : Told) × (rest : List Told) × (tells_fault (first ∷ rest) ≡ false) × Carried names n command (first ∷ rest) k l from to old new x y false
CameOut names n command k l from to old new x y Faulted =
    (told : List Told) × (tells_fault told ≡ true) × Carried names n command told k l from to old new x y false
CameOut names n command k l from to old new x y Lacking = Makes command × (l ≡ k) × (to ≡ from) × (new ≡ old) × (y ≡ x)
CameOut names n command k l from to old new x y Broken = (told : List Told) × Carried names n command told k l from to old new x y true

-- a command that made something is done; one that didn't lacks memory
abbrev pub MadeAs : Result (Unit {0}) AllocError → Outcome → Type 0
MadeAs (Ok x) outcome = outcome ≡ Whole
MadeAs (Err e) outcome = outcome ≡ Lacking

-- why a surface was not read
abbrev pub cause_of : PortAnswer → Option Cause
cause_of answers.Done = None
cause_of answers.Fault = Some causes.Fault
cause_of answers.NoMemory = Some causes.Memory

-- a command whose reports were written is done in part, for a fault or for want of memory; else the sink failed
abbrev pub parted : Bool → Outcome
parted true = Faulted
parted false = Wanting

abbrev pub ReportedAs : Bool → Result (Unit {0}) WriteFault → Outcome → Type 0
ReportedAs fault (Ok x) outcome = outcome ≡ parted fault
ReportedAs fault (Err e) outcome = outcome ≡ Broken

-- how a run ends that wrote all, of which something was reported, and of a fault
abbrev pub ended_of : Bool → Bool → Ended
ended_of whole true = FaultSeen
ended_of true false = Done
ended_of false false = MemorySeen

-- a command whose lines were written is done; else the sink failed
abbrev pub WrittenAs : Result (Unit {0}) WriteFault → Outcome → Type 0
WrittenAs (Ok x) outcome = outcome ≡ Whole
WrittenAs (Err e) outcome = outcome ≡ Broken
