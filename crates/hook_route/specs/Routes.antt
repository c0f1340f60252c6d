-- A routed call: what is shown, why, and what was counted, whoever drew.
use Rattle.std.specs.Prelude.{◌≡◌, ◌+◌, ◌*◌, ◌≤◌, ℕ, Bool, true, false, IsTrue, length, Option, Some, None, is_some}
use Rattle.geom_base.specs.declared.point.Point.{Point}
use Rattle.geom_base.specs.declared.port_answer.PortAnswer.{PortAnswer}
use Rattle.geom_base.specs.declared.port_answer.PortAnswer.TheVariants as port
use Rattle.geom_base.specs.declared.target.Target.{Target}
use Rattle.geom_base.specs.Drawn.{Drawn}
use Rattle.geom_base.specs.Points.{is_in_some}
use Rattle.geom_base.specs.Step.{Area}
use Rattle.copy_port.specs.Given.{Asked}
use Rattle.copy_port.specs.State.{PortState, Rest, Rose, Shown, drawn_on}
use Rattle.ddi_driver.specs.Hook.{CountsCall}
use Rattle.ddi_driver.specs.Kept.{SameBitmaps, SameMode}
use Rattle.hook_route.specs.declared.outcome.Cause.TheVariants.{Fault, Memory}
use Rattle.hook_route.specs.declared.outcome.Outcome.{Outcome}
use Rattle.hook_route.specs.declared.outcome.Outcome.TheVariants.{All, Part}

-- what a managed call's answer means
abbrev pub managed_outcome : PortAnswer → Outcome
managed_outcome port.Done = All
managed_outcome port.Fault = Part Fault
managed_outcome port.NoMemory = Part Memory

-- all of the clip has its new values, or what was pushed has them
abbrev pub ShownRouted : Asked → Area → Shown → Shown → Outcome → Type 0
ShownRouted a more before after All = after ≡ drawn_on a.target a.new (λ p. is_in_some p a.clip) before
ShownRouted a more before after (Part cause) = after ≡ drawn_on a.target a.new more before

-- a fault was counted
abbrev pub HasCause : ℕ → ℕ → Outcome → Type 0
HasCause before after All = Unit {0}
HasCause before after (Part Fault) = Rose before after
HasCause before after (Part Memory) = Unit {0}

-- What a driver was asked: nothing, or its hook, which declined or not. The counts say so.
abbrev pub Asking : Type 0
Asking = Option Bool

pub record CountsNothing (before after : Rest) : Type 0 where
  pub offered : after.offered ≡ before.offered
  pub offered_bitmaps : after.offered_bitmaps ≡ before.offered_bitmaps
  pub declined : after.declined ≡ before.declined

abbrev pub CountsAsking : Asking → Target → Rest → Rest → Type 0
CountsAsking None target before after = CountsNothing before after
CountsAsking (Some refused) target before after = CountsCall target refused before after

-- a hook is asked once where the call is hooked, and else never; where memory was wanting first it may not have been, and then nothing is drawn
abbrev pub WasAsked : Bool → Asking → Area → Outcome → Type 0
WasAsked false asking more outcome = asking ≡ None
WasAsked true asking more All = IsTrue (is_some asking)
WasAsked true asking more (Part cause) = asking ≡ None → (p : Point) → more p ≡ false

-- A routed call: what was pushed, `more`, lies in the clip; by the outcome it or all of the clip has its new values, and all else is as before;
-- the hook was asked once, declined only what it said it may, and only where the engine drew was anything written through the port.
pub record Routed (a : Asked) (before after : PortState) (d e : Drawn) (outcome : Outcome) : Type 0 where
  pub more : Area
  pub points : (p : Point) → is_in_some p e.rects ≡ more p
  pub within : (p : Point) → IsTrue (more p) → IsTrue (is_in_some p a.clip)
  pub shown : ShownRouted a more before.shown after.shown outcome
  pub cause : HasCause before.faults after.faults outcome
  pub later : before.faults ≤ after.faults
  pub asking : Asking
  pub counts : CountsAsking asking a.target before.rest after.rest
  pub asked : WasAsked (before.rest.hooks a.hook) asking more outcome
  pub declined : asking ≡ Some true → IsTrue (before.rest.declines a.class)
  pub written : IsTrue (before.rest.hooks a.hook) → ¬ (asking ≡ Some true) → after.written ≡ before.written
  pub spare : d.spare ≤ e.spare + before.rest.cuts * length a.clip
  pub mode : SameMode before.rest after.rest
  pub bitmaps : SameBitmaps before.rest after.rest

-- a call that its hook didn't draw: the driver doesn't hook it, or declined
pub record IsUndrawn (a : Asked) (before after : PortState) (d e : Drawn) : Type 0 where
  pub shown : after.shown ≡ before.shown
  pub drawn : e ≡ d
  pub later : before.faults ≤ after.faults
  pub asking : Asking
  pub counts : CountsAsking asking a.target before.rest after.rest
  pub hooked : before.rest.hooks a.hook ≡ is_some asking
  pub refused : IsTrue (is_some asking) → asking ≡ Some true
  pub declined : asking ≡ Some true → IsTrue (before.rest.declines a.class)
  pub mode : SameMode before.rest after.rest
  pub bitmaps : SameBitmaps before.rest after.rest
