-- What a line that draws asks for.
use Rattle.std.specs.Prelude.{ℕ, Option, Some, None, is_some, Bool, true, false, not, ◌&&◌, ◌||◌, ◌==◌, if◌then◌else◌, option_map}
use Rattle.std.specs.Option.{option_map_or}
use Rattle.geom_base.specs.declared.point.Point.{Point}
use Rattle.geom_base.specs.declared.rect.Rect.{Rect}
use Rattle.geom_base.specs.declared.target.Target.TheVariants.{Screen}
use Rattle.pix_format.specs.Value.{bits_of}
use Rattle.rop_mix.specs.Needs.{source_needed, pattern_needed, mask_needed}
use Rattle.brush_obj.specs.declared.blt_call.BltCall.{BltCall}
use Rattle.brush_obj.specs.declared.copy_call.CopyCall.{CopyCall}
use Rattle.brush_obj.specs.declared.paint_call.PaintCall.{PaintCall}
use Rattle.script_orders.specs.declared.desk_command.Spot.{Spot}
use Rattle.script_orders.specs.declared.desk_command.Spot.TheVariants as spots
use Rattle.script_orders.specs.declared.desk_command.Feed.{Feed}
use Rattle.script_orders.specs.declared.desk_command.Feed.TheVariants as feeds
use Rattle.script_orders.specs.declared.desk_command.BrushUse.{BrushUse}
use Rattle.script_orders.specs.declared.desk_command.BrushUse.TheVariants as uses
use Rattle.script_names.specs.declared.entry.Bitmap.{Bitmap}

-- a source is read from the desk or from a bitmap
abbrev pub feed_from : Spot → Feed
feed_from spots.Desk = feeds.Desk
feed_from (spots.Bitmap n) = feeds.Bitmap n

-- a source that isn't needed isn't looked at
abbrev pub needed_feed : Bool → Option Spot → Feed
needed_feed true (Some spot) = feed_from spot
needed_feed needed source = feeds.Nothing

-- a mask that isn't needed isn't looked at
abbrev pub needed_mask : Bool → Option Bitmap → Option Bitmap
needed_mask needed mask = if needed then mask else None

abbrev pub is_brush : BrushUse → Bool
is_brush uses.Nothing = false
is_brush _ = true

-- source, mask and brush are given where the raster operation needs them
abbrev pub has_operands : ℕ → Option Spot → Option Bitmap → BrushUse → Bool
has_operands code source mask brush =
    (not (source_needed code) || is_some source) && (not (mask_needed code) || is_some mask) && (not (pattern_needed code) || is_brush brush)

-- a mask has one bit for each pixel
abbrev pub is_mono_mask : Option Bitmap → Bool
is_mono_mask mask = option_map_or (λ (b : Bitmap). bits_of b.format == 1) mask true

abbrev pub is_bitmap : Spot → ℕ → Bool
is_bitmap spots.Desk n = false
is_bitmap (spots.Bitmap m) n = m == n

-- a mask isn't what is drawn on
abbrev pub is_other : Spot → Option Bitmap → Bool
is_other target mask = option_map_or (λ (b : Bitmap). not (is_bitmap target b.number)) mask true

abbrev pub number_of_mask : Option Bitmap → Option ℕ
number_of_mask mask = option_map (λ (b : Bitmap). b.number) mask

abbrev pub blt_from : Rect → Point → Point → Point → ℕ → BltCall
blt_from rect src mask origin code = record { target = Screen; rect = rect; held = None; src = src; mask = mask; origin = origin; rop = record { code = code } }

abbrev pub copy_from : Rect → Point → CopyCall
copy_from rect src = record { target = Screen; rect = rect; held = None; src = src }

abbrev pub paint_from : Rect → Point → ℕ → PaintCall
paint_from rect origin mix = record { target = Screen; rect = rect; origin = origin; mix = mix }
