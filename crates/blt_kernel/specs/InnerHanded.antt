-- Inner: what kernels are handed, as the drawing that they make of it.
use Rattle.std.specs.Prelude.{Bool, Option, Some, None, option_map, if◌then◌else◌}
use Rattle.std.specs.Borrow.{Bor}
use Rattle.geom_base.specs.declared.point.Point.{Point}
use Rattle.geom_base.specs.declared.rect.Rect.{Rect}
use Rattle.pix_format.specs.Xlate.{Translation}
use Rattle.surf_obj.specs.declared.view.LentView.{LentView}
use Rattle.brush_obj.specs.declared.blt_call.BltCall.{BltCall}
use Rattle.rop_mix.specs.Needs.{source_needed, mask_needed, pattern_needed}
use Rattle.blt_kernel.specs.declared.shift.Shift.{Shift}
use Rattle.blt_kernel.specs.declared.drawing.Drawing.{Drawing}
use Rattle.brush_obj.specs.declared.ink.Ink.{Ink}
use Rattle.brush_obj.specs.declared.ink.Ink.TheVariants.{Solid}
use Rattle.blt_kernel.specs.declared.mask.Mask.{Mask}
use Rattle.blt_kernel.specs.declared.source.SourcePixels.{SourcePixels}

-- which points belong to those of a target, where `at` belongs to the corner of a rectangle
abbrev pub shift_from : Rect → Point → Shift
shift_from rect at = record { rect = rect; at = at }

-- the source that is drawn, where one is needed
abbrev pub source_given : Bool → Option (Bor LentView) → Shift → Bor Translation → Option SourcePixels
source_given needed lent shift xlate = if needed then Some (record { lent = lent; shift = shift; xlate = xlate }) else None

-- the mask that chooses, where one is needed
abbrev pub mask_given : Bool → Option (Bor LentView) → Shift → Option Mask
mask_given needed lent shift = if needed then option_map (λ (v : Bor LentView). record { view = v; shift = shift }) lent else None

-- what is painted with, where a pattern is needed
abbrev pub ink_given : Bool → Ink → Ink
ink_given needed ink = if needed then ink else Solid 0

-- what a raster operation draws with
abbrev pub drawing_given : BltCall → Option (Bor LentView) → Option (Bor LentView) → Bor Translation → Ink → Drawing
drawing_given call src mask xlate ink = record {
  rop = call.rop;
  source = source_given (source_needed call.rop.code) src (shift_from call.rect call.src) xlate;
  mask = mask_given (mask_needed call.rop.code) mask (shift_from call.rect call.mask);
  ink = ink_given (pattern_needed call.rop.code) ink;
  origin = call.origin;
}
