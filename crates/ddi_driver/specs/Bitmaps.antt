-- Bitmaps that a driver keeps.
use Rattle.std.specs.Prelude.{◌≡◌, ◌≤◌, ℕ, if◌then◌else◌, Option, None, Some}
use Rattle.geom_base.specs.declared.size.Size.{Size}
use Rattle.geom_base.specs.declared.target.Target.{Target}
use Rattle.geom_base.specs.declared.target.Target.TheVariants.{Screen, Bitmap}
use Rattle.surf_obj.specs.Surface.{Surface}
use Rattle.copy_port.specs.State.{IsLive, PortState, Shown, blank, next_count, same_target, surface_of}
use Rattle.ddi_driver.specs.Kept.{SameBitmaps, SameMode, SameOffers}
use Rattle.ddi_driver.specs.declared.answers.CreateAnswer.{CreateAnswer}
use Rattle.ddi_driver.specs.declared.answers.CreateAnswer.TheVariants.{Made, Declined, NoMemory}

abbrev pub HasBitmap : Shown → ℕ → Type 0
HasBitmap shown id = IsLive shown (Bitmap id)

-- one target shows this, or nothing, and the others what they did
abbrev pub with_target : Target → Option Surface → Shown → Shown
with_target target s shown q = if same_target q target then s else shown q

-- a bitmap that was just made has the screen's format and table, and all its values are 0
abbrev pub new_bitmap : Size → Surface → Surface
new_bitmap size screen = blank size screen.format screen.table

-- what is shown after an answer: one bitmap more, or what was
abbrev pub shown_after : CreateAnswer → Size → Shown → Shown
shown_after (Made id) size shown = with_target (Bitmap id) (Some (new_bitmap size (surface_of shown Screen))) shown
shown_after Declined size shown = shown
shown_after NoMemory size shown = shown

-- the bitmap that was made wasn't there
abbrev pub IsFresh : Shown → CreateAnswer → Type 0
IsFresh shown (Made id) = shown (Bitmap id) ≡ None
IsFresh shown Declined = Unit {0}
IsFresh shown NoMemory = Unit {0}

-- a count, which rises where a bitmap was made
abbrev pub made_after : CreateAnswer → ℕ → ℕ
made_after (Made id) n = next_count n
made_after Declined n = n
made_after NoMemory n = n

-- asking a driver for a bitmap
pub record Creates (size : Size) (before after : PortState) (answer : CreateAnswer) : Type 0 where
  pub shown : after.shown ≡ shown_after answer size before.shown
  pub fresh : IsFresh before.shown answer
  pub asked : after.rest.asked ≡ next_count before.rest.asked
  pub made : after.rest.made ≡ made_after answer before.rest.made
  pub later : before.faults ≤ after.faults
  pub written : after.written ≡ before.written
  pub mode : SameMode before.rest after.rest
  pub offers : SameOffers before.rest after.rest

-- giving a bitmap up
pub record Deletes (id : ℕ) (before after : PortState) : Type 0 where
  pub shown : after.shown ≡ with_target (Bitmap id) None before.shown
  pub later : before.faults ≤ after.faults
  pub written : after.written ≡ before.written
  pub mode : SameMode before.rest after.rest
  pub offers : SameOffers before.rest after.rest
  pub bitmaps : SameBitmaps before.rest after.rest
