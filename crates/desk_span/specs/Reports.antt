-- What is told of a command that was not done whole.
use Rattle.std.specs.Prelude.{Bool, true, false, if◌then◌else◌, nat_eq, List, [], ◌∷◌, Option, Some, None}
use Rattle.std.specs.List.{list_any}
use Rattle.std.specs.Option.{option_map_or}
use Rattle.geom_base.specs.declared.point.Point.{Point}
use Rattle.geom_base.specs.declared.rect.Rect.{Rect}
use Rattle.geom_base.specs.Points.{is_in_some}
use Rattle.script_orders.specs.declared.named.Named.{Named}
use Rattle.script_orders.specs.declared.named.Named.TheVariants.{Screen, Bitmap}
use Rattle.hook_route.specs.declared.outcome.Cause.{Cause}
use Rattle.hook_route.specs.declared.outcome.Cause.TheVariants.{Fault, Memory}

-- the report on a target: why, and the rectangles that were done
pub record Told : Type 0 where
  pub target : Named
  pub cause : Cause
  pub rects : List Rect

abbrev pub same_name : Named → Named → Bool
same_name (Screen m) (Screen n) = nat_eq m n
same_name (Bitmap m) (Bitmap n) = nat_eq m n
same_name p q = false

-- the report on a target, where there is one
abbrev pub report_on : List Told → Named → Option Told
report_on [] q = None
report_on (t ∷ told) q = if same_name t.target q then Some t else report_on told q

-- the points that change of a target: all, or those that its report names
abbrev pub part_of : Option Told → Point → Bool
part_of report p = option_map_or (λ (t : Told). is_in_some p t.rects) report true

-- whether a cause is a fault, and whether some report tells of one
abbrev pub is_fault : Cause → Bool
is_fault Fault = true
is_fault Memory = false

abbrev pub tells_fault : List Told → Bool
tells_fault told = list_any (λ (t : Told). is_fault t.cause) told
