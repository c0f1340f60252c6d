use Rattle.std.proofs.Common.{◌≡◌, ◌++◌, take, drop}
use Rattle.clip_obj.specs.InnerBand.{IsBand}
use Rattle.clip_obj.specs.Order.{ordered}
use Rattle.clip_obj.proofs.batch.fill_batch.Given as goal

-- the first places are filled, and the band at hand is one
abbrev pub invariant-loop-i : goal.invariant-loop-i
invariant-loop-i l = (l.out ≡ take l.i (drop l.from (ordered l.direction l.rects)) ++ drop l.i l.fn.out) × IsBand l.rects l.band
