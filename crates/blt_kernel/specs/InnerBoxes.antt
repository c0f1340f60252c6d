-- Inner: boxes of columns and rows.
use Rattle.std.specs.Prelude.{◌≤◌, ◌<◌}
use Rattle.geom_base.specs.declared.rect.Rect.{Rect}
use Rattle.geom_base.specs.declared.size.Size.{Size}
use Rattle.geom_base.specs.Points.{box_of}
use Rattle.surf_obj.specs.View.{view_size}
use Rattle.blt_kernel.specs.InnerShift.{Reaches}
use Rattle.blt_kernel.specs.InnerDrawing.{size_from}
use Rattle.blt_kernel.specs.declared.shift.Shift.{Shift}
use Rattle.blt_kernel.specs.declared.edges.Edges.{Edges}
use Rattle.blt_kernel.specs.declared.mask.Mask.{Mask}
use Rattle.blt_kernel.specs.declared.source.SourcePixels.{SourcePixels}

-- the rectangle of these edges
abbrev pub box_from : Edges → Rect
box_from e = box_of e.left e.top e.right e.bottom

-- edges in order that lie in a surface of a size
pub record LieIn (size : Size) (e : Edges) : Type 0 where
  pub across : e.left ≤ e.right
  pub right : e.right ≤ size.w
  pub down : e.top ≤ e.bottom
  pub bottom : e.bottom ≤ size.h

-- edges in order that lie in others
pub record ArePart (outer inner : Edges) : Type 0 where
  pub left : outer.left ≤ inner.left
  pub across : inner.left ≤ inner.right
  pub right : inner.right ≤ outer.right
  pub top : outer.top ≤ inner.top
  pub down : inner.top ≤ inner.bottom
  pub bottom : inner.bottom ≤ outer.bottom

-- a box has a point
abbrev pub HasPoint : Edges → Type 0
HasPoint e = (e.left < e.right) × (e.top < e.bottom)

-- what belongs to a box lies in a surface of a size
abbrev pub BoxReaches : Shift → Size → Edges → Type 0
BoxReaches shift size e = Reaches shift size e.left e.top e.right e.bottom

-- the same of a source, and of a mask
abbrev pub SourceReaches : Size → Edges → SourcePixels → Type 0
SourceReaches size e s = BoxReaches s.shift (size_from s.lent size) e

abbrev pub MaskReaches : Edges → Mask → Type 0
MaskReaches e m = BoxReaches m.shift (view_size m.view.now) e
