use Rattle.std.proofs.Common.{◌≡◌, take}
use Rattle.std.specs.List.{All, filter}
use Rattle.geom_base.specs.Points.{has_points}
use Rattle.region.specs.InnerScan.{IsSolid}
use Rattle.region.proofs.scan.solid_rects.Given as goal

abbrev pub invariant-loop-rect : goal.invariant-loop-rect
invariant-loop-rect l = record { rects : l.solid.items ≡ filter has_points (take l.rect-index l.rects); solid : All IsSolid l.solid.items }
