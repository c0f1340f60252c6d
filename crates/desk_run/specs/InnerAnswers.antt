-- Of private calls: what they answer.
use Rattle.std.specs.Prelude.{◌≡◌, ℕ, true, false, List, Option, None, Some, Ok, Result, ◌⊎◌}
use Rattle.copy_port.specs.State.{PortState, Rose as CountRose}
use Rattle.copy_port.specs.declared.words.Kind.TheVariants.{Linear}
use Rattle.copy_port.specs.declared.words.Limit.{Limit}
use Rattle.ddi_driver.specs.Enabling.{Enables}
use Rattle.ddi_driver.specs.Kept.{IsUnchanged}
use Rattle.desk_io.specs.Counts.{Counted, Rose}
use Rattle.desk_io.specs.Sinks.{Puts}
use Rattle.desk_span.specs.Kept.{Kept, first_kept}
use Rattle.script_orders.specs.Asked.{Asked}
use Rattle.desk_run.specs.Answers.{ComesBy, DriverRose, HasDriverCause, IsDueOrMemory, Leaves, due_by, taken}
use Rattle.desk_run.specs.Config.{mode_of}
use Rattle.desk_run.specs.Entries.{Entry}
use Rattle.desk_run.specs.Input.{Checked}
use Rattle.desk_run.specs.Run.{Ran}
use Rattle.desk_run.specs.Status.{is_read_fault, is_write_fault}
use Rattle.desk_run.specs.Texts.{plain_text}
use Rattle.desk_run.specs.declared.run.Ended.{Ended}
use Rattle.desk_run.specs.declared.run.Ended.TheVariants as ended
use Rattle.desk_run.specs.declared.status.InputRefusal.{InputRefusal}
use Rattle.desk_run.specs.declared.status.Status.{Status}
use Rattle.desk_run.specs.declared.status.Status.TheVariants.{Done, FaultSeen, NoMemory, WriteFault, ShelfShort, EnableFault, MemorySeen, ModeRefused}

-- the status of a run that ended so
abbrev pub status_of : Ended → Status
status_of ended.Done = Done
status_of ended.FaultSeen = FaultSeen
status_of ended.MemorySeen = MemorySeen
status_of ended.NoMemory = NoMemory
status_of ended.WriteFault = WriteFault

-- the status of a shelf on which no linear driver is disabled
abbrev pub shelf_short : Status
shelf_short = ShelfShort Linear 1 0

-- The commands of a script were run from a desk on an enabled driver, and the status says how they ended. So for want of memory the next command makes something.
pub record RanAs (script : Asked) (start : Kept) (from to : PortState) (old new : Option (List ℕ)) (before after : ℕ) (s : Status) : Type 0 where
  pub ended : Ended
  pub status : s ≡ status_of ended
  pub desk : Kept
  pub history : List Entry
  pub ran : Ran script.names script.commands start desk from to old new before after ended history

-- the text of a status was written, and the status is answered; or the sink failed in it
abbrev pub Says : Status → Option (List ℕ) → Option (List ℕ) → ℕ → ℕ → Status → Type 0
Says s old new before after answer = ((answer ≡ s) × Puts (plain_text s) old new before after false)
    ⊎ ((answer ≡ WriteFault) × Puts (plain_text s) old new before after true)

-- a driver was enabled for an input's screen, and its commands were run
pub record RanThere (i : Checked) (place : ℕ) (from to : PortState) (old new : Option (List ℕ)) (before after : ℕ) (s : Status) : Type 0 where
  pub begun : PortState
  pub enabled : Enables (mode_of i.config) from begun (Ok tt)
  pub ran : RanAs i.script (first_kept place i.config.size) begun to old new before after s

-- it refused the mode
pub record RefusedThere (i : Checked) (from to : PortState) (old new : Option (List ℕ)) (before after : ℕ) (s : Status) : Type 0 where
  pub limit : Limit
  pub has : from.rest.mode_limit (mode_of i.config) ≡ Some limit
  pub same : IsUnchanged from to
  pub said : Says (ModeRefused 0 limit) old new before after s

-- its device failed
pub record FailedThere (i : Checked) (from to : PortState) (old new : Option (List ℕ)) (before after : ℕ) (s : Status) : Type 0 where
  pub has : from.rest.mode_limit (mode_of i.config) ≡ None
  pub rose : CountRose from.faults to.faults
  pub same : IsUnchanged from to
  pub said : Says (EnableFault 0) old new before after s

-- or there was no memory for it
pub record LackedThere (from to : PortState) (old new : Option (List ℕ)) (before after : ℕ) (s : Status) : Type 0 where
  pub is : s ≡ NoMemory
  pub same : IsUnchanged from to
  pub quiet : new ≡ old
  pub count : after ≡ before

abbrev pub WasRun : Checked → ℕ → PortState → PortState → Option (List ℕ) → Option (List ℕ) → ℕ → ℕ → Status → Type 0
WasRun i place from to old new before after s =
    RanThere i place from to old new before after s ⊎ (RefusedThere i from to old new before after s
    ⊎ (FailedThere i from to old new before after s ⊎ LackedThere from to old new before after s))

-- The answer to an input that was read, as far as sink and shelf show it.
pub record Ends (input : Option (Result Checked InputRefusal)) (drivers drivers_after : List PortState) (old new : Option (List ℕ)) (before after : ℕ) (s : Status) : Type 0 where
  pub comes : ComesBy s (due_by input drivers)
  pub read : is_read_fault s ≡ false
  pub count : Counted (is_write_fault s) before after
  pub driver : HasDriverCause s drivers drivers_after
  pub complete : (Rose before after → ⊥) → (DriverRose (taken drivers) drivers drivers_after → ⊥) → IsDueOrMemory (due_by input drivers) s
  pub leaves : Leaves input drivers drivers_after old new before after s
