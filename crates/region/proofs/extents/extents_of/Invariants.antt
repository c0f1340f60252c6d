use Rattle.std.proofs.Common.{drop}
use Rattle.region.specs.InnerExtents.{IsAround}
use Rattle.region.proofs.extents.extents_of.Given as goal

abbrev pub invariant-loop-rect : goal.invariant-loop-rect
invariant-loop-rect l = IsAround l.rects (drop l.rect-index l.rects) l.extents
