-- What is there after a command.
use Rattle.std.proofs.Common.{◌≡◌, List, length, map, Option, Some, None, refl, ap}
use Rattle.std.specs.Prelude.{option_map}
use Rattle.std.proofs.Math.Seq.{map-set_same}
use Rattle.std.proofs.lemmas.List.{length_push, map-append, map-set}
use Rattle.surf_obj.specs.Surface.{Surface}
use Rattle.script_orders.specs.Live.{Look, after}
use Rattle.script_orders.specs.declared.desk_command.DeskCommand.{DeskCommand}
use Rattle.script_orders.specs.declared.desk_command.Spot.{Spot}
use Rattle.script_orders.specs.declared.desk_command.Spot.TheVariants as spots
use Rattle.script_orders.specs.declared.named.Named.TheVariants.{Bitmap}
use Rattle.script_orders.specs.declared.script_command.ScriptCommand.{ScriptCommand}
use Rattle.script_orders.specs.declared.script_command.ScriptCommand.TheVariants.{Create, Delete, Brush, Draw, Dump, Sum, Nothing}
use Rattle.desk_span.specs.Desk.{State, bitmap_at, carried, drawn, drawn_on, live_of, look_of}
use Rattle.desk_span.specs.Reports.{Told}

-- what is there after a command with its reports
live_drawn : (c : DeskCommand) (told : List Told) (s : State) (spot : Spot) → live_of (drawn_on s c told spot) ≡ live_of s
live_drawn c told s spots.Desk = refl
live_drawn c told s (spots.Bitmap n) =
    ap (λ (looks : List (Option Look)). record { bitmaps = looks; brushes = length s.brushes })
    (map-set_same (option_map look_of) s.bitmaps n _ None (alike (bitmap_at s n)))
  where
    alike : (o : Option Surface) → option_map look_of (option_map (drawn s c told (Bitmap n)) o) ≡ option_map look_of o
    alike None = refl
    alike (Some t) = refl

pub live_after : (c : ScriptCommand) (told : List Told) (s : State) → live_of (carried c told s) ≡ after c (live_of s)
live_after (Create o) told s =
    ap (λ (looks : List (Option Look)). record { bitmaps = looks; brushes = length s.brushes }) (map-append (option_map look_of) s.bitmaps _)
live_after (Delete n) told s =
    ap (λ (looks : List (Option Look)). record { bitmaps = looks; brushes = length s.brushes }) (map-set (option_map look_of) s.bitmaps n None)
live_after (Brush o) told s = ap (λ n. record { bitmaps = map (option_map look_of) s.bitmaps; brushes = n }) (length_push s.brushes _)
live_after (Draw c) told s = live_drawn c told s c.target
live_after (Dump q) told s = refl
live_after (Sum q) told s = refl
live_after Nothing told s = refl
