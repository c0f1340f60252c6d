-- Of private calls: rows of values that are copied.
use Rattle.std.specs.Prelude.{◌≡◌, ◌≤ℤ◌, ◌+ℤ◌, pos, ℕ, List, length, Some}
use Rattle.pix_format.specs.declared.rgb.Rgb.{Rgb}
use Rattle.surf_obj.specs.Surface.{Surface}
use Rattle.brush_obj.specs.Calls.{Operands, copy_operands}
use Rattle.brush_obj.specs.declared.copy_call.CopyCall.{CopyCall}
use Rattle.script_orders.specs.Rows.{zero_point}
use Rattle.desk_span.specs.Desk.{row_like, shown_by, translation}

-- the operands of a copy of a row of values in a surface's own format, in which no colour counts
abbrev pub row_operands : Surface → List ℕ → Rgb → Operands
row_operands t values back = copy_operands (shown_by (Some (row_like t values))) (translation (row_like t values) t back) t.format

-- a copy of a row of values: one row from the first value on, of no more columns than there are values
pub record CopiesRow (c : CopyCall) (values : List ℕ) : Type 0 where
  pub first : c.src ≡ zero_point
  pub across : c.rect.right ≤ℤ (c.rect.left +ℤ pos (length values))
  pub down : c.rect.bottom ≡ (c.rect.top +ℤ pos 1)
