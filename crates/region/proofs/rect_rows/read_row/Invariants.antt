use Rattle.std.proofs.Common.{length}
use Rattle.region.specs.InnerRectRows.{IsRead}
use Rattle.region.proofs.rect_rows.read_row.Given as goal

abbrev pub invariant-loop-rest : goal.invariant-loop-rest
invariant-loop-rest l = IsRead l.row l.rects l.spans.items l.end l.rest

abbrev pub decreases-loop-rest : goal.decreases-loop-rest
decreases-loop-rest l = length l.rest
