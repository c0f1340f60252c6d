use Rattle.std.proofs.Common.{◌≡◌, ◌++◌, map, take, drop}
use Rattle.region.specs.InnerBandList.{ended_at}
use Rattle.region.proofs.band_list.end_rects.Given as goal

abbrev pub invariant-loop-rect : goal.invariant-loop-rect
invariant-loop-rect l = l.rect-items ≡ map (ended_at l.place) (take l.rect-index l.fn.rects) ++ drop l.rect-index l.fn.rects
