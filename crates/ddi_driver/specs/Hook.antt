-- The hook contract: what a drawing hook does and answers, whatever the call.
use Rattle.std.specs.Prelude.{◌≡◌, ℕ, ◌*◌, ◌≤◌, Bool, true, false, if◌then◌else◌, List, length, IsTrue, not, Option}
use Rattle.std.specs.Borrow.{Bor}
use Rattle.geom_base.specs.declared.point.Point.{Point}
use Rattle.geom_base.specs.declared.port_answer.PortAnswer.{PortAnswer}
use Rattle.geom_base.specs.declared.port_answer.PortAnswer.TheVariants as port
use Rattle.geom_base.specs.declared.target.Target.{Target}
use Rattle.geom_base.specs.declared.target.Target.TheVariants.{Screen, Bitmap}
use Rattle.geom_base.specs.Drawn.{Drawn}
use Rattle.geom_base.specs.Points.{is_in_some}
use Rattle.geom_base.specs.Step.{Area}
use Rattle.pix_format.specs.declared.rgb.Rgb.{Rgb}
use Rattle.pix_format.specs.Xlate.{Translation}
use Rattle.surf_obj.specs.declared.view.LentView.{LentView}
use Rattle.brush_obj.specs.declared.draw_call.DrawCall.{DrawCall}
use Rattle.brush_obj.specs.declared.draw_call.DrawCall.TheVariants.{Blt, Copy, Paint}
use Rattle.brush_obj.specs.declared.face.BrushFace.{BrushFace}
use Rattle.copy_port.specs.Given.{Asked, Given, given_blt, given_copy, given_paint}
use Rattle.copy_port.specs.Port.{Pushes}
use Rattle.copy_port.specs.State.{PortState, Rest, Rose, Shown, drawn_on, next_count}
use Rattle.ddi_driver.specs.Kept.{SameBitmaps, SameMode}
use Rattle.ddi_driver.specs.declared.answers.HookAnswer.{HookAnswer}
use Rattle.ddi_driver.specs.declared.answers.HookAnswer.TheVariants.{Done, Declined, Fault, NoMemory}

-- what a call is handed of all that may be
abbrev pub given_for : DrawCall → Option (Bor LentView) → Option (Bor LentView) → Translation → List Rgb → BrushFace → Given
given_for (Blt c) source mask xlate table face = given_blt source mask xlate table face
given_for (Copy c) source mask xlate table face = given_copy source xlate table
given_for (Paint c) source mask xlate table face = given_paint table face

-- what the engine's answer means to a hook that handed its call back
abbrev pub punted : PortAnswer → HookAnswer
punted port.Done = Done
punted port.Fault = Fault
punted port.NoMemory = NoMemory

-- what is shown after an answer: the clip has its new values; or all is as before; or what was pushed has them
abbrev pub ShownAfter : Asked → Area → Shown → Shown → HookAnswer → Type 0
ShownAfter a more before after Done = after ≡ drawn_on a.target a.new (λ p. is_in_some p a.clip) before
ShownAfter a more before after Declined = after ≡ before
ShownAfter a more before after Fault = after ≡ drawn_on a.target a.new more before
ShownAfter a more before after NoMemory = after ≡ drawn_on a.target a.new more before

-- why a hook answers so: it declines only a class that it said it may, and then pushes nothing; a fault was counted
abbrev pub HasReason : Asked → PortState → PortState → Drawn → Drawn → HookAnswer → Type 0
HasReason a before after d e Done = Unit {0}
HasReason a before after d e Declined = IsTrue (before.rest.declines a.class) × (e ≡ d)
HasReason a before after d e Fault = Rose before.faults after.faults
HasReason a before after d e NoMemory = Unit {0}

abbrev pub is_declined : HookAnswer → Bool
is_declined Done = false
is_declined Declined = true
is_declined Fault = false
is_declined NoMemory = false

abbrev pub is_screen : Target → Bool
is_screen Screen = true
is_screen (Bitmap n) = false

-- a count, which rises where something counts
abbrev pub counted : Bool → ℕ → ℕ
counted counts n = if counts then next_count n else n

-- the counts of a hook's call: it was offered, on the screen or on a bitmap, and perhaps declined
pub record CountsCall (target : Target) (refused : Bool) (before after : Rest) : Type 0 where
  pub offered : after.offered ≡ counted (is_screen target) before.offered
  pub offered_bitmaps : after.offered_bitmaps ≡ counted (not (is_screen target)) before.offered_bitmaps
  pub declined : after.declined ≡ counted refused before.declined

-- The hook contract: what was pushed, `more`, lies in the clip; by the answer it or all of the clip has its new values, and all else is as
-- before; the call is counted once, and what is written on the way isn't.
pub record HookContract (a : Asked) (before after : PortState) (d e : Drawn) (answer : HookAnswer) : Type 0 where
  pub more : Area
  pub pushes : Pushes (before.rest.cuts * length a.clip) more d e
  pub within : (p : Point) → IsTrue (more p) → IsTrue (is_in_some p a.clip)
  pub shown : ShownAfter a more before.shown after.shown answer
  pub reason : HasReason a before after d e answer
  pub later : before.faults ≤ after.faults
  pub written : after.written ≡ before.written
  pub counts : CountsCall a.target (is_declined answer) before.rest after.rest
  pub mode : SameMode before.rest after.rest
  pub bitmaps : SameBitmaps before.rest after.rest
