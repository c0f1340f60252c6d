use Rattle.std.specs.List.{AllWithin}
use Rattle.clip_obj.specs.InnerBand.{BeginsWith}
use Rattle.clip_obj.proofs.band.band_end.Given as goal

-- the rectangles up to here begin in the row
abbrev pub invariant-loop-end : goal.invariant-loop-end
invariant-loop-end l = AllWithin (BeginsWith l.rects l.place) l.rects l.place l.end
