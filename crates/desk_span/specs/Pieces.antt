-- The pieces in which a drawing is offered to the drivers of screens.
use Rattle.std.specs.Prelude.{◌≡◌, ℕ, Bool, true, false, Some, ◌&&◌, if◌then◌else◌}
use Rattle.std.specs.List.{list_any}
use Rattle.geom_base.specs.declared.point.Point.{Point}
use Rattle.geom_base.specs.Step.{Area}
use Rattle.brush_obj.specs.Calls.{reads_source, source_point}
use Rattle.script_orders.specs.declared.desk_command.DeskCommand.{DeskCommand}
use Rattle.script_orders.specs.declared.desk_command.Feed.{Feed}
use Rattle.script_orders.specs.declared.desk_command.Feed.TheVariants as feeds
use Rattle.script_orders.specs.declared.desk_command.Spot.TheVariants as spots
use Rattle.script_orders.specs.declared.named.Named.TheVariants.{Screen}
use Rattle.desk_span.specs.Desk.{ScreenAt, State, area_of, asked_point, has_point, surface_at}
use Rattle.desk_span.specs.Meeting.{Reaches}
use Rattle.surf_obj.specs.Surface.{Surface}

-- a source is the desk
abbrev pub is_desk : Feed → Bool
is_desk feeds.Desk = true
is_desk feed = false

-- some screen has a point of the desk
abbrev pub is_on_desk : State → Point → Bool
is_on_desk s p = list_any (λ (w : ScreenAt). has_point w p) s.places

-- a drawing finds its source for a point, where that is the desk and is read; the point is the drawing's
abbrev pub finds_source : State → DeskCommand → Point → Bool
finds_source s c p = if reads_source c.call && is_desk c.source then is_on_desk s (source_point c.call p) else true

-- the points of screen n that a drawing reaches in its clip, and finds its source for
abbrev pub piece_area : State → DeskCommand → ℕ → Area
piece_area s c n p = let q = asked_point s (Screen n) p in area_of c q && finds_source s c q

-- a drawing on the desk has a piece on screen n
pub record HasPiece (s : State) (c : DeskCommand) (n : ℕ) : Type 0 where
  pub target : c.target ≡ spots.Desk
  pub surface : Surface
  pub there : surface_at s (Screen n) ≡ Some surface
  pub reached : Reaches (piece_area s c n) surface.size
