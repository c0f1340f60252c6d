-- The first row of a rectangle.
use Rattle.std.specs.Prelude.{◌+ℤ◌, pos}
use Rattle.geom_base.specs.declared.rect.Rect.{Rect}

abbrev pub row_of : Rect → Rect
row_of r = record { left = r.left; top = r.top; right = r.right; bottom = r.top +ℤ pos 1 }
