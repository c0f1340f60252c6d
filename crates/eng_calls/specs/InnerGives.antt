-- Inner: what calls give on a surface of a size and a format, from the values that they find on it.
use Rattle.std.specs.Prelude.{ℕ, ◌≡◌, IsTrue, Option}
use Rattle.std.specs.Borrow.{Bor}
use Rattle.geom_base.specs.declared.point.Point.{Point}
use Rattle.geom_base.specs.declared.size.Size.{Size}
use Rattle.geom_base.specs.declared.target.Target.{Target}
use Rattle.pix_format.specs.declared.format.Format.{Format}
use Rattle.pix_format.specs.Xlate.{Translation}
use Rattle.rop_mix.specs.Needs.{pattern_needed}
use Rattle.surf_obj.specs.declared.view.LentView.{LentView}
use Rattle.brush_obj.specs.Calls.{HoldsOwn, blt_operands, new_of_blt, new_of_paint, paint_operands, shown}
use Rattle.brush_obj.specs.declared.blt_call.BltCall.{BltCall}
use Rattle.brush_obj.specs.Ink.{InkFits, ink_at}
use Rattle.blt_kernel.specs.Handed.{TranslatesFrom, mask_of, source_of}
use Rattle.eng_calls.specs.Steps.{Rule}
use Rattle.eng_calls.specs.declared.blt.Blitting.{Blitting}
use Rattle.eng_calls.specs.declared.paint.Painting.{Painting}

-- a source that suits surfaces of a format
pub record SourceSuits (held : Option Target) (target : Target) (src : Option (Bor LentView)) (xlate : Translation) (format : Format) : Type 0 where
  pub own : HoldsOwn held target
  pub from : TranslatesFrom src held format xlate
  pub to : xlate.to ≡ format

-- what a raster operation gives, where a source that is held has the values that are found
abbrev pub blt_rule : BltCall → Option (Bor LentView) → Option (Bor LentView) → Translation → (Point → ℕ) → Size → Format → Rule
blt_rule call src mask xlate pattern size format values =
    new_of_blt call (blt_operands (source_of src call.held (shown size values)) (mask_of mask) xlate pattern format)

-- a raster operation with what it draws with
pub record BltFits (k : Blitting) (format : Format) : Type 0 where
  pub source : SourceSuits k.call.now.held k.call.now.target k.src k.xlate.now format
  pub ink : IsTrue (pattern_needed k.call.now.rop.code) → InkFits k.ink format

abbrev pub BltGives : Blitting → Size → Format → Rule
BltGives k size format = blt_rule k.call.now k.src k.mask k.xlate.now (ink_at k.ink) size format

-- and a paint
abbrev pub PaintFits : Painting → Format → Type 0
PaintFits k format = InkFits k.ink format

abbrev pub PaintGives : Painting → Size → Format → Rule
PaintGives k size format values = new_of_paint k.call.now (paint_operands (ink_at k.ink) format)
