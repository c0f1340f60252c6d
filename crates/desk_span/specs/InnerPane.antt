-- Of private calls: pixels in memory with their colours.
use Rattle.std.specs.Prelude.{List}
use Rattle.pix_format.specs.declared.rgb.Rgb.{Rgb}
use Rattle.surf_obj.specs.Object.{object_format, object_size, object_values}
use Rattle.surf_obj.specs.Surface.{Surface}
use Rattle.surf_obj.specs.declared.object.SurfObj.{SurfObj}

-- what pixels show with the colours that their values stand for
abbrev pub shown_in : SurfObj → List Rgb → Surface
shown_in pixels table = record { size = object_size pixels; format = object_format pixels; table = table; values = object_values pixels }
