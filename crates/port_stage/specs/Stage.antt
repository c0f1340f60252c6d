-- What the port of a stage shows.
use Rattle.std.specs.Prelude.{◌≡◌}
use Rattle.geom_base.specs.declared.size.Size.{Size}
use Rattle.geom_base.specs.declared.target.Target.TheVariants.{Bitmap, Screen}
use Rattle.pix_format.specs.declared.format.Format.{Format}
use Rattle.pix_format.specs.Standard.{standard_colours}
use Rattle.surf_obj.specs.Surface.{Surface}
use Rattle.copy_port.specs.State.{surface_of}
use Rattle.mem_port.specs.Port.{state_of}
use Rattle.mem_port.specs.declared.mem_port.MemPort.{MemPort}

-- a surface of a size and a format, with the colours that its values have where none are given
pub record IsPlain (whole : Size) (kept : Format) (s : Surface) : Type 0 where
  pub size : s.size ≡ whole
  pub format : s.format ≡ kept
  pub table : s.table ≡ standard_colours kept

-- both targets are such, and a rectangle is written in up to three parts
pub record IsStage (size : Size) (format : Format) (p : MemPort) : Type 0 where
  pub screen : IsPlain size format (surface_of (state_of p).shown Screen)
  pub bitmap : IsPlain size format (surface_of (state_of p).shown (Bitmap 1))
  pub cuts : p.cuts ≡ 3
