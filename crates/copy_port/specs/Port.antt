-- What the calls of a port do: one record for those that only read, and one for all that draw.
use Rattle.std.specs.Prelude.{◌≡◌, ℕ, ◌+◌, ◌≤◌, IsTrue, ◌||◌, length}
use Rattle.geom_base.specs.declared.point.Point.{Point}
use Rattle.geom_base.specs.declared.port_answer.PortAnswer.{PortAnswer}
use Rattle.geom_base.specs.declared.port_answer.PortAnswer.TheVariants.{Done, Fault, NoMemory}
use Rattle.geom_base.specs.declared.rect.Rect.{Rect}
use Rattle.geom_base.specs.declared.target.Target.{Target}
use Rattle.geom_base.specs.Drawn.{Drawn}
use Rattle.geom_base.specs.Points.{HasPoints, LiesIn, is_in_some}
use Rattle.geom_base.specs.Step.{Area, Change}
use Rattle.copy_port.specs.State.{PortState, Shown, IsLive, Rose, drawn_on, surface_of}

-- a fault has a cause
abbrev pub FaultRose : PortAnswer → ℕ → ℕ → Type 0
FaultRose Fault before now = Rose before now
FaultRose Done before now = Unit {0}
FaultRose NoMemory before now = Unit {0}

abbrev pub IfDone : PortAnswer → Type 0 → Type 0
IfDone Done p = p
IfDone Fault p = Unit {0}
IfDone NoMemory p = Unit {0}

-- a live target, and a rectangle with points that lies in it
pub record InTarget (shown : Shown) (target : Target) (r : Rect) : Type 0 where
  pub alive : IsLive shown target
  pub rect : LiesIn r (surface_of shown target).size
  pub points : HasPoints r

-- nothing changes but the count of faults
pub record Keeps (old new : PortState) (answer : PortAnswer) : Type 0 where
  pub shown : new.shown ≡ old.shown
  pub written : new.written ≡ old.written
  pub rest : new.rest ≡ old.rest
  pub later : old.faults ≤ new.faults
  pub cause : FaultRose answer old.faults new.faults

-- these points were pushed onto a drawn list, in at most so many entries
pub record Pushes (most : ℕ) (more : Area) (d e : Drawn) : Type 0 where
  pub points : (p : Point) → is_in_some p e.rects ≡ (is_in_some p d.rects || more p)
  pub spare : d.spare ≤ e.spare + most
  pub room : length d.rects + d.spare ≤ length e.rects + e.spare
  pub longer : length d.rects ≤ length e.rects

-- A drawing on one target: what was pushed has its new values, all else is as before, and after Done what was pushed is the area.
pub record Draws (target : Target) (new : Change) (area : Area) (most : ℕ) (before after : PortState) (d e : Drawn) (answer : PortAnswer) : Type 0 where
  pub more : Area
  pub pushes : Pushes most more d e
  pub within : (p : Point) → IsTrue (more p) → IsTrue (area p)
  pub shown : after.shown ≡ drawn_on target new more before.shown
  pub done : IfDone answer ((p : Point) → more p ≡ area p)
  pub rest : after.rest ≡ before.rest
  pub later : before.faults ≤ after.faults
  pub cause : FaultRose answer before.faults after.faults
