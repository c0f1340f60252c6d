-- Why bytes cannot be a surface.
use Rattle.std.specs.Prelude.{ℕ, ◌≡◌, ◌<◌, ◌≤◌, ◌*◌}
use Rattle.geom_base.specs.declared.size.Size.{Size}
use Rattle.pix_format.specs.declared.format.Format.{Format}
use Rattle.surf_obj.specs.Layout.{row_bytes}
use Rattle.surf_obj.specs.declared.refusal.SurfRefusal.{SurfRefusal}
use Rattle.surf_obj.specs.declared.refusal.SurfRefusal.TheVariants.{Stride, Short}

-- the stride is below the row's bytes; else the bytes are fewer than the rows take
abbrev pub Refuses : Size → Format → ℕ → ℕ → SurfRefusal → Type 0
Refuses size format stride len (Stride least) = (stride < row_bytes format size.w) × (least ≡ row_bytes format size.w)
Refuses size format stride len (Short needed got) = (row_bytes format size.w ≤ stride) × (len < size.h * stride) × (needed ≡ size.h * stride) × (got ≡ len)
