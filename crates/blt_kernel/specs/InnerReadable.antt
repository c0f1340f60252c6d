-- Inner: what a drawing gives at a point, where the source or the mask may have no point for it.
use Rattle.std.specs.Prelude.{ℕ, List, Bool, true, Option, Some, None, ◌&&◌, if◌then◌else◌}
use Rattle.geom_base.specs.declared.point.Point.{Point}
use Rattle.geom_base.specs.declared.size.Size.{Size}
use Rattle.geom_base.specs.Points.{is_in, whole}
use Rattle.pix_format.specs.declared.format.Format.{Format}
use Rattle.geom_base.specs.Step.{Change}
use Rattle.surf_obj.specs.View.{view_size}
use Rattle.brush_obj.specs.Calls.{point_across}
use Rattle.blt_kernel.specs.InnerDrawing.{size_from, drawn_value}
use Rattle.blt_kernel.specs.declared.shift.Shift.{Shift}
use Rattle.blt_kernel.specs.declared.drawing.Drawing.{Drawing}
use Rattle.blt_kernel.specs.declared.mask.Mask.{Mask}
use Rattle.blt_kernel.specs.declared.source.SourcePixels.{SourcePixels}

-- what belongs to a point is a point of a surface of a size
abbrev pub is_readable : Shift → Size → Point → Bool
is_readable shift size p = is_in (point_across shift.rect shift.at p) (whole size)

-- the source, if any, has a point for it
abbrev pub source_is_readable : Option SourcePixels → Size → Point → Bool
source_is_readable (Some s) size p = is_readable s.shift (size_from s.lent size) p
source_is_readable None size p = true

-- the mask, if any, has a point for it
abbrev pub mask_is_readable : Option Mask → Point → Bool
mask_is_readable (Some m) p = is_readable m.shift (view_size m.view.now) p
mask_is_readable None p = true

-- points for which source and mask are there get a new value, the others are untouched
abbrev pub drawn_readable : Drawing → Size → Format → List ℕ → Change
drawn_readable d size format values p old =
    if source_is_readable d.source size p && mask_is_readable d.mask p then Some (drawn_value d size format values p old) else None
