use Rattle.std.proofs.Common.{◌+◌, ◌||◌, length}
use Rattle.region.specs.InnerCursor.{in_columns}
use Rattle.region.specs.InnerRows.{IsUniting}
use Rattle.region.proofs.two_bands.add_either.Given as goal

abbrev pub invariant-loop-next : goal.invariant-loop-next
invariant-loop-next l = IsUniting (λ x. in_columns x l.left || in_columns x l.right) l.a l.b l.from l.to l.row.spans.items

abbrev pub decreases-loop-next : goal.decreases-loop-next
decreases-loop-next l = length l.a + length l.b
