-- Inner: what a drawing gives at a point, where all that it draws with is there.
use Rattle.std.specs.Prelude.{ℕ, List, Option, Some, None, ◌==◌, ◌≡◌, ◌≤◌, ◌<◌, ◌^◌, ◌+◌, All, EachIndex, slice_index, IfSome}
use Rattle.std.specs.Borrow.{Bor}
use Rattle.geom_base.specs.declared.point.Point.{Point}
use Rattle.geom_base.specs.declared.size.Size.{Size}
use Rattle.geom_base.specs.Points.{is_in, box_of, point_at}
use Rattle.pix_format.specs.declared.format.Format.{Format}
use Rattle.pix_format.specs.Value.{bits_of}
use Rattle.pix_format.specs.Xlate.{translated}
use Rattle.rop_mix.specs.Rop.{rop4_of}
use Rattle.geom_base.specs.Step.{Change, redrawn}
use Rattle.surf_obj.specs.Lent.{values_of, size_of, format_of, OnlyPixels}
use Rattle.geom_base.specs.Grid.{value_at}
use Rattle.surf_obj.specs.declared.lent.LentSurf.{LentSurf}
use Rattle.surf_obj.specs.View.{view_size, view_format, view_values}
use Rattle.surf_obj.specs.declared.view.LentView.{LentView}
use Rattle.brush_obj.specs.Ink.{InkFits, ink_at}
use Rattle.brush_obj.specs.Wrapping.{from_origin}
use Rattle.blt_kernel.specs.InnerShift.{Reaches, value_shifted}
use Rattle.blt_kernel.specs.declared.source.SourcePixels.{SourcePixels}
use Rattle.blt_kernel.specs.declared.mask.Mask.{Mask}
use Rattle.blt_kernel.specs.declared.drawing.Drawing.{Drawing}

-- the size of a view, or that of the target where none was lent
abbrev pub size_from : Option (Bor LentView) → Size → Size
size_from (Some v) size = view_size v.now
size_from None size = size

-- likewise the format
abbrev pub format_from : Option (Bor LentView) → Format → Format
format_from (Some v) format = view_format v.now
format_from None format = format

-- likewise the values
abbrev pub values_from : Option (Bor LentView) → List ℕ → List ℕ
values_from (Some v) values = view_values v.now
values_from None values = values

-- the source's own value that belongs to a point
abbrev pub own_value : SourcePixels → Size → List ℕ → Point → ℕ
own_value s size values p = value_shifted s.shift (size_from s.lent size) (values_from s.lent values) p

-- each point gets it
abbrev pub given : SourcePixels → Size → List ℕ → Change
given s size values p old = Some (own_value s size values p)

-- the source's value that belongs to a point, as the target keeps it
abbrev pub source_at : SourcePixels → Size → List ℕ → Point → ℕ
source_at s size values p = translated s.xlate.now (own_value s size values p)

-- the same, or 0 where no source is needed
abbrev pub source_or_zero : Option SourcePixels → Size → List ℕ → Point → ℕ
source_or_zero (Some s) size values p = source_at s size values p
source_or_zero None size values p = 0

-- the mask's value that belongs to a point, or 0 where no mask is needed
abbrev pub mask_or_zero : Option Mask → Point → ℕ
mask_or_zero (Some m) p = value_shifted m.shift (view_size m.view.now) (view_values m.view.now) p
mask_or_zero None p = 0

-- the value of its pattern at a point
abbrev pub pattern_at : Drawing → Point → ℕ
pattern_at d p = ink_at d.ink (from_origin d.origin p)

-- the new value of a point of a target of this size and format, which has these values
abbrev pub drawn_value : Drawing → Size → Format → List ℕ → Point → ℕ → ℕ
drawn_value d size format values p old =
    rop4_of d.rop.code (mask_or_zero d.mask p == 1) (pattern_at d p) (source_or_zero d.source size values p) old (bits_of format)

-- each point gets a new value
abbrev pub drawn : Drawing → Size → Format → List ℕ → Change
drawn d size format values p old = Some (drawn_value d size format values p old)

-- values are the new ones of a run
pub record GivesRun (d : Drawing) (dst : LentSurf) (x y : ℕ) (run : List ℕ) : Type 0 where
  pub values : EachIndex run (λ k. slice_index run k ≡
      drawn_value d (size_of dst) (format_of dst) (values_of dst) (point_at (x + k) y) (value_at (size_of dst) (values_of dst) (x + k) y))
  pub fits : All (λ v. v < 2 ^ bits_of (format_of dst)) run

-- a source is translated from its format to that of the target
pub record IsTranslated (format : Format) (s : SourcePixels) : Type 0 where
  pub from : s.xlate.now.from ≡ format_from s.lent format
  pub to : s.xlate.now.to ≡ format

-- and it is there for a box
pub record SourceFits (size : Size) (format : Format) (left top right bottom : ℕ) (s : SourcePixels) : Type 0 where
  pub there : Reaches s.shift (size_from s.lent size) left top right bottom
  pub translated : IsTranslated format s

-- a mask is there for a box
abbrev pub MaskFits : ℕ → ℕ → ℕ → ℕ → Mask → Type 0
MaskFits left top right bottom m = Reaches m.shift (view_size m.view.now) left top right bottom

-- a drawing has all that it draws with for a box of a target of this size and format
pub record HasOperands (d : Drawing) (size : Size) (format : Format) (left top right bottom : ℕ) : Type 0 where
  pub columns : right ≤ size.w
  pub rows : bottom ≤ size.h
  pub source : IfSome d.source (SourceFits size format left top right bottom)
  pub mask : IfSome d.mask (MaskFits left top right bottom)
  pub ink : InkFits d.ink format

-- the points of a box have their new values, all at once from the old ones, and nothing else changed
pub record IsDrawn (d : Drawing) (left top right bottom : ℕ) (old new : LentSurf) : Type 0 where
  pub values : values_of new ≡ redrawn (size_of old) (values_of old) (λ p. is_in p (box_of left top right bottom))
      (drawn d (size_of old) (format_of old) (values_of old))
  pub only : OnlyPixels old new
