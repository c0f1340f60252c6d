-- Inner: ways to draw rows.
use Rattle.std.specs.Prelude.{ℕ, pos, ◌≡◌, ◌*◌, ◌/◌, ◌%◌, Option, Some, None, unsigned_abs}
use Rattle.std.specs.Borrow.{Bor}
use Rattle.pix_format.specs.declared.format.Format.{Format}
use Rattle.pix_format.specs.Value.{bits_of}
use Rattle.pix_format.specs.Xlate.{translated}
use Rattle.surf_obj.specs.declared.view.LentView.{LentView}
use Rattle.blt_kernel.specs.InnerShift.{place_shifted}
use Rattle.blt_kernel.specs.InnerDrawing.{format_from}
use Rattle.blt_kernel.specs.InnerFills.{FillsWith}
use Rattle.blt_kernel.specs.declared.shift.Shift.{Shift}
use Rattle.blt_kernel.specs.declared.drawing.Drawing.{Drawing}
use Rattle.blt_kernel.specs.declared.source.SourcePixels.{SourcePixels}
use Rattle.blt_kernel.specs.declared.way.Way.{Way}
use Rattle.blt_kernel.specs.declared.way.Way.TheVariants.{Fill, Copy, Combine}

-- a column of the target and the one that belongs to it begin at the same bit of a byte; within the target itself, pixels are whole bytes
abbrev pub AreAligned : Option (Bor LentView) → Shift → Format → ℕ → Type 0
AreAligned (Some view) shift format left = left * bits_of format % 8 ≡ unsigned_abs (place_shifted shift.rect.left shift.at.x (pos left)) * bits_of format % 8
AreAligned None shift format left = bits_of format % 8 ≡ 0

-- a source has the bytes that the target gets, from a column on
pub record HasTargetBytes (kept : Format) (left : ℕ) (s : SourcePixels) : Type 0 where
  pub format : format_from s.lent kept ≡ kept
  pub values : (v : ℕ) → translated s.xlate.now v ≡ v
  pub columns : AreAligned s.lent s.shift kept left

-- each point gets the source's value
pub record GivesSource (d : Drawing) (s : SourcePixels) : Type 0 where
  pub source : d.source ≡ Some s
  pub mask : d.mask ≡ None
  pub code : d.rop.code / 256 ≡ 0xCC

-- a way that gives what a drawing gives, from a column on
abbrev pub IsWayOf : Drawing → Format → ℕ → Way → Type 0
IsWayOf d format left (Fill value) = FillsWith d format value
IsWayOf d format left (Copy s) = GivesSource d s × HasTargetBytes format left s
IsWayOf d format left Combine = Unit {0}
