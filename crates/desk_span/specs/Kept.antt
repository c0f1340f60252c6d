-- What a desk keeps, and the state that it shows with the drivers of a shelf.
use Rattle.std.specs.Prelude.{◌≡◌, ℕ, List, [], ◌∷◌, Option, option_map, IsTrue, length, map}
use Rattle.geom_base.specs.declared.point.Point.{Point}
use Rattle.geom_base.specs.declared.size.Size.{Size}
use Rattle.geom_base.specs.declared.target.Target.TheVariants.{Screen}
use Rattle.pix_format.specs.declared.format.Format.{Format}
use Rattle.pix_format.specs.declared.format.Format.TheVariants.{B8}
use Rattle.pix_format.specs.declared.rgb.Rgb.{Rgb}
use Rattle.pix_format.specs.Standard.{standard_colours}
use Rattle.surf_obj.specs.Surface.{Surface}
use Rattle.brush_obj.specs.declared.face.BrushFace.{BrushFace}
use Rattle.copy_port.specs.State.{IsLive, PortState, surface_of}
use Rattle.ddi_driver.specs.Enabling.{screen_alone}
use Rattle.script_orders.specs.Live.{Live}
use Rattle.script_orders.specs.Rows.{zero_point}
use Rattle.desk_span.specs.Desk.{State, look_of, standing_at}

-- a screen of the desk: the place of its driver on the shelf, where it stands, and the mode that its driver shows
pub record ScreenKept : Type 0 where
  pub place : ℕ
  pub at : Point
  pub size : Size
  pub format : Format
  pub table : List Rgb

-- the screen, the bitmaps in the order in which they were made, none where one is gone, and the brushes in theirs
pub record Kept : Type 0 where
  pub screen : ScreenKept
  pub bitmaps : List (Option Surface)
  pub brushes : List BrushFace

-- a screen of format 8 with the standard colours, at the first point of the desk
abbrev pub first_screen : ℕ → Size → ScreenKept
first_screen place size = record { place = place; at = zero_point; size = size; format = B8; table = standard_colours B8 }

-- before the first command
abbrev pub first_kept : ℕ → Size → Kept
first_kept place size = record { screen = first_screen place size; bitmaps = []; brushes = [] }

-- what a driver shows on its screen
abbrev pub shown_by_driver : PortState → Surface
shown_by_driver driver = surface_of driver.shown Screen

-- the state that a desk shows, whose screen is what a driver shows
abbrev pub state_by : Kept → PortState → State
state_by k driver = record {
  places = standing_at k.screen.at (shown_by_driver driver) ∷ [];
  screens = shown_by_driver driver ∷ [];
  bitmaps = k.bitmaps;
  brushes = k.brushes;
}

-- what is there
abbrev pub live_in : Kept → Live
live_in k = record { bitmaps = map (option_map look_of) k.bitmaps; brushes = length k.brushes }

-- a driver is enabled and shows one screen and nothing else, with this size, format and table
pub record Serves (w : ScreenKept) (driver : PortState) : Type 0 where
  pub enabled : IsTrue driver.rest.enabled
  pub alive : IsLive driver.shown Screen
  pub alone : driver.shown ≡ screen_alone (shown_by_driver driver)
  pub size : (shown_by_driver driver).size ≡ w.size
  pub format : (shown_by_driver driver).format ≡ w.format
  pub table : (shown_by_driver driver).table ≡ w.table
