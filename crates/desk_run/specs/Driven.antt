-- What a history leaves of the driver of the screen, beside what that shows.
use Rattle.std.specs.Prelude.{◌≡◌, ◌≤◌, ◌<◌, ◌+◌, ◌-◌, ◌^◌, ℕ, All, IsTrue, if◌then◌else◌, List, [], ◌∷◌, length}
use Rattle.copy_port.specs.State.{PortState}
use Rattle.ddi_driver.specs.Kept.{SameBitmaps, SameMode}
use Rattle.script_orders.specs.declared.named.Named.TheVariants.{Screen}
use Rattle.desk_span.specs.Desk.{State, carried}
use Rattle.desk_span.specs.Drives.{IsOffer, PieceOf, is_hooked, rises}
use Rattle.desk_span.specs.Reports.{report_on, tells_fault}
use Rattle.desk_run.specs.Entries.{Entry}

-- how many commands, dumps and sums tell of a fault
abbrev pub faulted : List Entry → ℕ
faulted [] = 0
faulted (e ∷ es) = (if tells_fault e.told then 1 else 0) + faulted es

-- a count below its last value
abbrev pub IsCounting : ℕ → Type 0
IsCounting n = n < 2 ^ 64 - 1

-- how many calls a history offers to a driver: each command as many as it may
abbrev pub Offers : PortState → State → List Entry → ℕ → Type 0
Offers driver s [] k = k ≡ 0
Offers driver s (e ∷ es) k =
    (m : ℕ) × (l : ℕ) × IsOffer (is_hooked driver e.command) (PieceOf s e.command 0) (report_on e.told (Screen 0)) m
    × Offers driver (carried e.command e.told s) es l × (k ≡ m + l)

-- how many were declined: at most one a command; and where none was, a driver that hooks all that is drawn isn't written to
pub record Declined (before after : PortState) (h : List Entry) (m : ℕ) : Type 0 where
  pub most : m ≤ length h
  pub count : after.rest.declined ≡ rises m before.rest.declined
  pub written : m ≡ 0 → All (λ (e : Entry). IsTrue (is_hooked before e.command)) h → after.written ≡ before.written

-- What a history leaves of the driver. One fault is paid for by one rise of its count, while that counts.
pub record Driven (s : State) (h : List Entry) (before after : PortState) : Type 0 where
  pub later : before.faults ≤ after.faults
  pub paid : IsCounting after.faults → faulted h + before.faults ≤ after.faults
  pub offered : (k : ℕ) × Offers before s h k × (after.rest.offered ≡ rises k before.rest.offered)
  pub declined : (m : ℕ) × Declined before after h m
  pub mode : SameMode before.rest after.rest
  pub bitmaps : SameBitmaps before.rest after.rest
