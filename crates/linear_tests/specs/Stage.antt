-- What the driver of the tests shows.
use Rattle.std.specs.Prelude.{◌≡◌, IsTrue}
use Rattle.geom_base.specs.declared.size.Size.{Size}
use Rattle.geom_base.specs.declared.target.Target.TheVariants.{Screen}
use Rattle.pix_format.specs.declared.format.Format.TheVariants.{B8}
use Rattle.pix_format.specs.Standard.{standard_colours}
use Rattle.copy_port.specs.State.{IsLive, PortState, Shown, surface_of}
use Rattle.copy_port.specs.declared.words.Mode.{Mode}
use Rattle.ddi_driver.specs.Modes.{IsMode}

abbrev pub sides : Size
sides = record { w = 6; h = 4 }

-- a mode with a screen of these sides, with values of a byte and the colours that these have where none are given
pub record IsStageMode (m : Mode) : Type 0 where
  pub mode : IsMode m
  pub size : m.size ≡ sides
  pub format : m.format ≡ B8
  pub table : m.table ≡ standard_colours B8

-- such a screen is shown
pub record HasScreen (m : Shown) : Type 0 where
  pub alive : IsLive m Screen
  pub size : (surface_of m Screen).size ≡ sides
  pub format : (surface_of m Screen).format ≡ B8
  pub table : (surface_of m Screen).table ≡ standard_colours B8

-- an enabled driver with such a screen
pub record IsStage (s : PortState) : Type 0 where
  pub enabled : IsTrue s.rest.enabled
  pub screen : HasScreen s.shown
