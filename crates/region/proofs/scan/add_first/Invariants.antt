use Rattle.std.proofs.Common.{length}
use Rattle.region.specs.InnerScan.{AreBeginning}
use Rattle.region.proofs.scan.add_first.Given as goal

abbrev pub invariant-loop-rest : goal.invariant-loop-rest
invariant-loop-rest l = AreBeginning l.row l.place l.rects l.initial.cover l.rest l.cover

abbrev pub decreases-loop-rest : goal.decreases-loop-rest
decreases-loop-rest l = length l.rest
