-- Inside the crate: bits that stand for a rectangle of a target.
use Rattle.std.specs.Prelude.{◌≡◌}
use Rattle.geom_base.specs.Points.{sides_of}
use Rattle.copy_port.specs.State.{IsLive, Shown, surface_of}
use Rattle.eng_calls.specs.declared.part.Part.{Part}

-- the bits have the rectangle's size and the target's format; the rectangle may go past the target
pub record IsPart (targets : Shown) (part : Part) : Type 0 where
  pub live : IsLive targets part.target
  pub size : part.layout.size ≡ sides_of part.rect
  pub format : part.layout.format ≡ (surface_of targets part.target).format
