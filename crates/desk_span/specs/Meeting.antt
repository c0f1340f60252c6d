-- Drawings that meet their targets.
use Rattle.std.specs.Prelude.{◌≡◌, IsTrue, Some}
use Rattle.geom_base.specs.declared.point.Point.{Point}
use Rattle.geom_base.specs.declared.size.Size.{Size}
use Rattle.geom_base.specs.Points.{is_in, whole}
use Rattle.geom_base.specs.Step.{Area}
use Rattle.surf_obj.specs.Surface.{Surface}
use Rattle.script_orders.specs.declared.desk_command.DeskCommand.{DeskCommand}
use Rattle.script_orders.specs.declared.desk_command.Spot.{Spot}
use Rattle.script_orders.specs.declared.desk_command.Spot.TheVariants as spots
use Rattle.script_orders.specs.declared.named.Named.{Named}
use Rattle.script_orders.specs.declared.named.Named.TheVariants.{Screen, Bitmap}
use Rattle.desk_span.specs.Desk.{State, area_of, asked_point, surface_at}

-- the targets of a drawing: each screen, or a bitmap
abbrev pub IsTarget : Spot → Named → Type 0
IsTarget spots.Desk (Screen n) = Unit {0}
IsTarget spots.Desk (Bitmap n) = ⊥
IsTarget (spots.Bitmap m) (Screen n) = ⊥
IsTarget (spots.Bitmap m) (Bitmap n) = n ≡ m

-- a point of a size is in an area
pub record Reaches (area : Area) (size : Size) : Type 0 where
  pub point : Point
  pub inside : IsTrue (is_in point (whole size))
  pub reached : IsTrue (area point)

-- a drawing reaches a point of a target, in the clip
pub record Meets (s : State) (c : DeskCommand) (q : Named) : Type 0 where
  pub target : IsTarget c.target q
  pub surface : Surface
  pub there : surface_at s q ≡ Some surface
  pub reached : Reaches (λ p. area_of c (asked_point s q p)) surface.size
