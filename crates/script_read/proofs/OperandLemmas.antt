-- What a drawing needs is named, and its coordinates are a script's.
use Rattle.std.proofs.Common.{◌≡◌, ◌≢◌, ℕ, List, Bool, true, false, Option, Some, None, Ok, is_some, IsTrue, not}
use Rattle.std.specs.Prelude.{◌||◌}
use Rattle.std.proofs.lemmas.Bool.{and_parts, false≢true}
use Rattle.std.proofs.lemmas.Result.{IfOk-at_ok}
use Rattle.geom_base.specs.declared.point.Point.{Point}
use Rattle.geom_base.specs.declared.rect.Rect.{Rect}
use Rattle.brush_obj.specs.declared.draw_call.DrawCall.{DrawCall}
use Rattle.rop_mix.specs.Needs.{source_needed, pattern_needed, mask_needed}
use Rattle.script_words.specs.PlaceLaws.{rect_within, point_within, in_order}
use Rattle.script_words.specs.Places.{AreCoordinates, IsCoordinate, rect_in, point_in, is_well_ordered}
use Rattle.script_orders.specs.Places.{IsPlace, IsDrawn, IsPlaced, HasPlaces}
use Rattle.script_orders.specs.declared.desk_command.BrushUse.{BrushUse}
use Rattle.script_orders.specs.declared.desk_command.Feed.{Feed}
use Rattle.script_orders.specs.declared.desk_command.Feed.TheVariants as feeds
use Rattle.script_orders.specs.declared.desk_command.Spot.{Spot}
use Rattle.script_orders.specs.declared.desk_command.Spot.TheVariants as spots
use Rattle.script_names.specs.declared.entry.Bitmap.{Bitmap}
use Rattle.script_read.specs.Drawing.{feed_from, has_operands, is_brush, needed_feed, needed_mask, number_of_mask}
use Rattle.script_read.proofs.RegionLemmas.{edge, has_all}

-- a point and a rectangle that were read
pub point_at : {p : Point} (words : List (List ℕ)) (i : ℕ) → point_in words i ≡ Ok p → IsPlace p
point_at {p} words i e =
    let w = IfOk-at_ok (λ (p : Point). IsCoordinate p.x × IsCoordinate p.y) e (point_within words i) in
    record { across = edge p.x w.0; down = edge p.y w.1 }

pub rect_at : {r : Rect} (words : List (List ℕ)) (i : ℕ) → rect_in words i ≡ Ok r → is_well_ordered r ≡ true → IsDrawn r
rect_at {r} words i e ordered =
    let order = in_order r ordered in
    record { across = order.0; down = order.1; edges = has_all r (IfOk-at_ok AreCoordinates e (rect_within words i)) }

-- whatever the source
pub all_places : (feed : Feed) (call : DrawCall) → IsPlaced call → HasPlaces feed call
all_places feeds.Nothing call h = h
all_places feeds.Desk call h = h
all_places (feeds.Bitmap n) call h = h
all_places (feeds.Row values) call h = tt

-- a source that was named
pub from_is_named : (spot : Spot) → feed_from spot ≢ feeds.Nothing
from_is_named spots.Desk e = cc
from_is_named (spots.Bitmap n) e = cc

-- what isn't needed needn't be named
abbrev named_if : Bool → Bool → Bool
named_if needed named = not needed || named

pub operands_named : (code : ℕ) (source : Option Spot) (mask : Option Bitmap) (brush : BrushUse) → has_operands code source mask brush ≡ true →
    (named_if (source_needed code) (is_some source) ≡ true) × (named_if (mask_needed code) (is_some mask) ≡ true)
operands_named code source mask brush e = and_parts _ _ (and_parts _ (named_if (pattern_needed code) (is_brush brush)) e).0

pub needed_source_named : (needed : Bool) (source : Option Spot) → named_if needed (is_some source) ≡ true → IsTrue needed →
    needed_feed needed source ≢ feeds.Nothing
needed_source_named true (Some spot) e n = from_is_named spot
needed_source_named true None e n = absurd (false≢true e)
needed_source_named false source e n = absurd (false≢true n)

pub needed_mask_named : (needed : Bool) (mask : Option Bitmap) → named_if needed (is_some mask) ≡ true → IsTrue needed →
    IsTrue (is_some (number_of_mask (needed_mask needed mask)))
needed_mask_named true (Some b) e n = n
needed_mask_named true None e n = absurd (false≢true e)
needed_mask_named false mask e n = absurd (false≢true n)
