use Rattle.std.proofs.Common.{◌+◌, ◌&&◌, not, length}
use Rattle.region.specs.InnerCursor.{in_columns}
use Rattle.region.specs.InnerRows.{IsLessening}
use Rattle.region.proofs.two_bands.add_others.Given as goal

abbrev pub invariant-loop-a : goal.invariant-loop-a
invariant-loop-a l = IsLessening (λ x. in_columns x l.left && not (in_columns x l.right)) l.a l.b l.place l.row.spans.items

abbrev pub decreases-loop-a : goal.decreases-loop-a
decreases-loop-a l = length l.a + length l.b
