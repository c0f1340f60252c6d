-- What a surface in memory shows.
use Rattle.surf_obj.specs.LayoutLaws.{length-values_in}
use Rattle.surf_obj.specs.Object.{object_bytes, object_format, object_layout, object_size, object_values}
use Rattle.surf_obj.specs.Surface.{Surface}
use Rattle.copy_port.specs.State.{IsSurface}
use Rattle.mem_port.specs.declared.mem_surf.MemSurf.{MemSurf}

abbrev pub surface_in : MemSurf → Surface
surface_in s = record { size = object_size s.pixels; format = object_format s.pixels; table = s.table; values = object_values s.pixels }

-- it is a surface
pub surface_in-sound : (s : MemSurf) → IsSurface (surface_in s)
surface_in-sound s = record { sides = s.sides; colours = s.colours; count = length-values_in (object_layout s.pixels) (object_bytes s.pixels) }
