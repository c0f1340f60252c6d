-- Of private calls: what a clip lets through of a call's rectangle on a surface.
use Rattle.std.specs.Prelude.{List, Option}
use Rattle.geom_base.specs.declared.rect.Rect.{Rect}
use Rattle.region.specs.Region.{SharesPoint}
use Rattle.desk_span.specs.Desk.{in_clip}

-- a point of a frame that a clip lets through
abbrev pub LetsThrough : Option (List Rect) → Rect → Type 0
LetsThrough clip frame = SharesPoint (in_clip clip) frame
