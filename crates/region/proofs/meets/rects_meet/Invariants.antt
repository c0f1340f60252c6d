use Rattle.std.proofs.Common.{length}
use Rattle.region.specs.InnerMeets.{IsLeft}
use Rattle.region.proofs.meets.rects_meet.Given as goal

abbrev pub invariant-loop-rest : goal.invariant-loop-rest
invariant-loop-rest l = IsLeft l.rects l.rect l.rest

abbrev pub decreases-loop-rest : goal.decreases-loop-rest
decreases-loop-rest l = length l.rest
