-- What a script asks for.
use Rattle.std.specs.Prelude.{◌≡◌, ◌≢◌, ◌≤◌, ◌*◌, ℕ, List, length, Option, Some, is_some, IsTrue}
use Rattle.geom_base.specs.declared.size.Size.{Size}
use Rattle.geom_base.specs.Points.{most_side}
use Rattle.pix_format.specs.Value.{colours_of}
use Rattle.script_orders.specs.declared.desk_command.Spot.{Spot}
use Rattle.script_orders.specs.declared.desk_command.Spot.TheVariants as spots
use Rattle.script_orders.specs.declared.orders.CreateOrder.{CreateOrder}
use Rattle.brush_obj.specs.declared.draw_call.DrawCall.{DrawCall}
use Rattle.rop_mix.specs.Needs.{source_needed, mask_needed}
use Rattle.brush_obj.specs.declared.draw_call.DrawCall.TheVariants.{Blt, Copy, Paint}
use Rattle.script_orders.specs.declared.desk_command.Feed.{Feed}
use Rattle.script_orders.specs.declared.desk_command.Feed.TheVariants.{Nothing, Row}
use Rattle.script_orders.specs.Limits.{most_pixels}
use Rattle.script_orders.specs.Rows.{row_rect, zero_point}
use Rattle.script_orders.specs.declared.script_command.ScriptCommand.{ScriptCommand}

-- its commands in order, and the names of the bitmaps that it makes, each in the place of its number
pub record Asked : Type 0 where
  pub commands : List ScriptCommand
  pub names : List (List ℕ)

-- the sizes that a bitmap may have
pub record IsSurfaceSize (size : Size) : Type 0 where
  pub least_width : 1 ≤ size.w
  pub most_width : size.w ≤ most_side
  pub least_height : 1 ≤ size.h
  pub most_height : size.h ≤ most_side
  pub few_pixels : size.w * size.h ≤ most_pixels

-- a bitmap can be made: its size is one that it may have, and its table fits its format
pub record CanCreate (o : CreateOrder) : Type 0 where
  pub size : IsSurfaceSize o.size
  pub table : length o.table ≡ colours_of o.format

-- no bitmap is its own mask
abbrev pub MaskIsOther : Spot → Option ℕ → Type 0
MaskIsOther (spots.Bitmap n) (Some m) = m ≢ n
MaskIsOther spot mask = Unit {0}

-- a row of values comes with the copy of all its values
abbrev pub RowIsCopied : Feed → DrawCall → Type 0
RowIsCopied (Row values) (Copy c) = (c.src ≡ zero_point) × (c.rect ≡ row_rect (record { x = c.rect.left; y = c.rect.top }) (length values))
RowIsCopied (Row values) call = ⊥
RowIsCopied feed call = Unit {0}

-- a source and a mask are named where the call needs them
abbrev pub HasNeeded : DrawCall → Feed → Option ℕ → Type 0
HasNeeded (Blt c) source mask = (IsTrue (source_needed c.rop.code) → source ≢ Nothing) × (IsTrue (mask_needed c.rop.code) → IsTrue (is_some mask))
HasNeeded (Copy c) source mask = source ≢ Nothing
HasNeeded (Paint c) source mask = Unit {0}
