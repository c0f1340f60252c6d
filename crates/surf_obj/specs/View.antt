-- What a surface on bits that are only read shows.
use Rattle.std.specs.Prelude.{ℕ, ◌≡◌, List}
use Rattle.geom_base.specs.declared.size.Size.{Size}
use Rattle.pix_format.specs.declared.format.Format.{Format}
use Rattle.surf_obj.specs.Layout.{Layout, values_in}
use Rattle.surf_obj.specs.declared.view.LentView.{LentView}

abbrev pub view_layout : LentView → Layout
view_layout s = s.layout

abbrev pub view_size : LentView → Size
view_size s = s.layout.size

abbrev pub view_format : LentView → Format
view_format s = s.layout.format

-- the bytes that it reads
abbrev pub view_bytes : LentView → List ℕ
view_bytes s = s.bits.now

-- the values of its pixels, row by row
abbrev pub view_values : LentView → List ℕ
view_values s = values_in s.layout s.bits.now

-- a surface of this layout on these bytes
pub record ViewOver (bytes : List ℕ) (l : Layout) (s : LentView) : Type 0 where
  pub content : view_bytes s ≡ bytes
  pub layout : view_layout s ≡ l
