use Rattle.std.proofs.Common.{◌≤◌, ◌+◌}
use Rattle.std.specs.List.{AllWithin}
use Rattle.clip_obj.specs.InnerBand.{BeginsWith}
use Rattle.clip_obj.proofs.band.band_start.Given as goal

-- the rectangles down to here begin in the row
abbrev pub invariant-loop-start : goal.invariant-loop-start
invariant-loop-start l = (l.start ≤ l.place) × AllWithin (BeginsWith l.rects l.place) l.rects l.start (l.place + 1)

abbrev pub decreases-loop-start : goal.decreases-loop-start
decreases-loop-start l = l.start
