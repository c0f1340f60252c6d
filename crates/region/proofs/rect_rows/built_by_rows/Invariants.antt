use Rattle.std.proofs.Common.{length}
use Rattle.region.specs.InnerRectRows.{ArePushed}
use Rattle.region.proofs.rect_rows.built_by_rows.Given as goal

abbrev pub invariant-loop-rest : goal.invariant-loop-rest
invariant-loop-rest l = ArePushed l.rects l.builder l.end l.rest

abbrev pub decreases-loop-rest : goal.decreases-loop-rest
decreases-loop-rest l = length l.rest
