-- What a surface that owns its bits shows.
use Rattle.std.specs.Prelude.{ℕ, ◌≡◌, ◌+◌, ◌*◌, ◌/◌, false, List, replicate}
use Rattle.geom_base.specs.declared.size.Size.{Size}
use Rattle.pix_format.specs.declared.format.Format.{Format}
use Rattle.surf_obj.specs.Layout.{Layout, layout_from, row_bytes, values_in}
use Rattle.surf_obj.specs.declared.object.SurfObj.{SurfObj}

-- the bytes of a row, rounded up to four
abbrev pub stride_of : Format → ℕ → ℕ
stride_of format w = (row_bytes format w + 3) / 4 * 4

-- the layout of a size and a format in bytes of their own: the top row first
abbrev pub padded : Size → Format → Layout
padded size format = layout_from size format (stride_of format size.w) false

abbrev pub object_layout : SurfObj → Layout
object_layout s = s.layout

abbrev pub object_size : SurfObj → Size
object_size s = s.layout.size

abbrev pub object_format : SurfObj → Format
object_format s = s.layout.format

abbrev pub object_bytes : SurfObj → List ℕ
object_bytes s = s.bits.items

-- the values of its pixels, row by row
abbrev pub object_values : SurfObj → List ℕ
object_values s = values_in s.layout s.bits.items

-- a new surface: the top row first, rows padded to four bytes, and all values 0
pub record IsBlank (size : Size) (format : Format) (s : SurfObj) : Type 0 where
  pub layout : object_layout s ≡ padded size format
  pub bytes : object_bytes s ≡ replicate (size.h * stride_of format size.w) 0
  pub values : object_values s ≡ replicate (size.w * size.h) 0
