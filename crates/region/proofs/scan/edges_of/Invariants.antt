use Rattle.std.proofs.Common.{take}
use Rattle.std.specs.List.{All}
use Rattle.region.specs.InnerScan.{HasBothEdges}
use Rattle.region.proofs.scan.edges_of.Given as goal

abbrev pub invariant-loop-rect : goal.invariant-loop-rect
invariant-loop-rect l = All (HasBothEdges l.edges.items) (take l.rect-index l.rects)
