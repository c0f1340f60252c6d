-- What a command leaves of the driver of a screen, beside what is shown.
use Rattle.std.specs.Prelude.{◌≡◌, ◌≢◌, ◌≤◌, ℕ, zero, suc, Bool, true, false, IsTrue, IfSome, List, [], Option, None, All}
use Rattle.copy_port.specs.Classes.{hook_of}
use Rattle.copy_port.specs.State.{PortState, Rose, next_count}
use Rattle.ddi_driver.specs.Kept.{SameBitmaps, SameMode}
use Rattle.hook_route.specs.declared.outcome.Cause.{Cause}
use Rattle.hook_route.specs.declared.outcome.Cause.TheVariants.{Fault, Memory}
use Rattle.script_orders.specs.declared.named.Named.TheVariants.{Screen}
use Rattle.script_orders.specs.declared.script_command.ScriptCommand.{ScriptCommand}
use Rattle.script_orders.specs.declared.script_command.ScriptCommand.TheVariants as asked
use Rattle.desk_span.specs.Desk.{State}
use Rattle.desk_span.specs.Pieces.{HasPiece}
use Rattle.desk_span.specs.Reports.{Told, report_on}

-- a count that rose so often
abbrev pub rises : ℕ → ℕ → ℕ
rises zero n = n
rises (suc k) n = next_count (rises k n)

-- How many calls a command offers to a driver: one for its piece, where the driver hooks it. With a report it may be none, but where a
-- rectangle was drawn it is that one.
pub record IsOffer (hooked : Bool) (piece : Type 0) (report : Option Told) (k : ℕ) : Type 0 where
  pub most : k ≤ 1
  pub hooked_only : hooked ≡ false → k ≡ 0
  pub piece_only : ¬ piece → k ≡ 0
  pub whole : report ≡ None → IsTrue hooked → piece → k ≡ 1
  pub part : IfSome report (λ (t : Told). t.rects ≢ [] → IsTrue hooked → k ≡ 1)

-- the piece of a command on screen n, if it has one; and whether the screen's driver hooks what is drawn, if something is
abbrev pub PieceOf : State → ScriptCommand → ℕ → Type 0
PieceOf s (asked.Draw c) n = HasPiece s c n
PieceOf s command n = ⊥

abbrev pub is_hooked : PortState → ScriptCommand → Bool
is_hooked driver (asked.Draw c) = driver.rest.hooks (hook_of c.call)
is_hooked driver command = true

-- a report of a fault has a cause: a count rose
abbrev pub HasCause : Cause → ℕ → ℕ → Type 0
HasCause Fault before now = Rose before now
HasCause Memory before now = Unit {0}

-- so many calls were declined: at most one; and where none was, a driver that hooks what is drawn isn't written to
pub record IsDeclined (hooked : Bool) (before after : PortState) (m : ℕ) : Type 0 where
  pub most : m ≤ 1
  pub count : after.rest.declined ≡ rises m before.rest.declined
  pub written : m ≡ 0 → IsTrue hooked → after.written ≡ before.written

-- what a command leaves of the driver of screen n: what it was offered, what it declined, and why a fault is told
pub record Drives (s : State) (command : ScriptCommand) (told : List Told) (n : ℕ) (before after : PortState) : Type 0 where
  pub later : before.faults ≤ after.faults
  pub causes : All (λ (t : Told). HasCause t.cause before.faults after.faults) told
  pub offered : (k : ℕ) × IsOffer (is_hooked before command) (PieceOf s command n) (report_on told (Screen n)) k × (after.rest.offered ≡ rises k before.rest.offered)
  pub declined : (m : ℕ) × IsDeclined (is_hooked before command) before after m
  pub mode : SameMode before.rest after.rest
  pub bitmaps : SameBitmaps before.rest after.rest
