-- What enabling and disabling a driver do.
use Rattle.std.specs.Prelude.{◌≡◌, ◌≤◌, ℕ, false, IsTrue, Option, None, Some, Result, Ok, Err, OnOk, OnErr}
use Rattle.geom_base.specs.declared.target.Target.TheVariants.{Screen, Bitmap}
use Rattle.surf_obj.specs.Surface.{Surface}
use Rattle.copy_port.specs.State.{PortState, Rose, Shown, blank}
use Rattle.copy_port.specs.declared.words.Limit.{Limit}
use Rattle.copy_port.specs.declared.words.Mode.{Mode}
use Rattle.ddi_driver.specs.Kept.{IsUnchanged, SameBitmaps, SameDriver}
use Rattle.ddi_driver.specs.declared.answers.EnableRefusal.{EnableRefusal}
use Rattle.ddi_driver.specs.declared.answers.EnableRefusal.TheVariants.{ModeOut, Fault, NoMemory}

-- a screen alone, and nothing at all
abbrev pub screen_alone : Surface → Shown
screen_alone screen Screen = Some screen
screen_alone screen (Bitmap n) = None

abbrev pub no_target : Shown
no_target target = None

-- a driver that begins in a mode: it shows its screen alone, all of value 0, and what it counts is 0
pub record BeginsIn (mode : Mode) (s : PortState) : Type 0 where
  pub enabled : IsTrue s.rest.enabled
  pub shown : s.shown ≡ screen_alone (blank mode.size mode.format mode.table)
  pub offered : s.rest.offered ≡ 0
  pub offered_bitmaps : s.rest.offered_bitmaps ≡ 0
  pub declined : s.rest.declined ≡ 0
  pub written : s.written ≡ 0

-- the limit that an answer names, and that a fault has a cause
abbrev pub limit_in : {A : Type 0} → Result A EnableRefusal → Option Limit
limit_in (Ok a) = None
limit_in (Err (ModeOut limit)) = Some limit
limit_in (Err Fault) = None
limit_in (Err NoMemory) = None

abbrev pub HasCause : {A : Type 0} → Result A EnableRefusal → ℕ → ℕ → Type 0
HasCause (Ok a) before now = Unit {0}
HasCause (Err (ModeOut limit)) before now = Unit {0}
HasCause (Err Fault) before now = Rose before now
HasCause (Err NoMemory) before now = Unit {0}

-- enabling: by its answer the driver begins in the mode, or is as before; a limit is named exactly where the driver has one for the mode
pub record Enables (mode : Mode) (before after : PortState) (result : Result (Unit {0}) EnableRefusal) : Type 0 where
  pub ok : OnOk result (BeginsIn mode after)
  pub err : OnErr result (IsUnchanged before after)
  pub limit : limit_in result ≡ before.rest.mode_limit mode
  pub cause : HasCause result before.faults after.faults
  pub later : before.faults ≤ after.faults
  pub driver : SameDriver before.rest after.rest
  pub bitmaps : SameBitmaps before.rest after.rest

-- disabling: nothing is shown
pub record Disables (before after : PortState) : Type 0 where
  pub enabled : after.rest.enabled ≡ false
  pub shown : after.shown ≡ no_target
  pub later : before.faults ≤ after.faults
  pub driver : SameDriver before.rest after.rest
  pub bitmaps : SameBitmaps before.rest after.rest
