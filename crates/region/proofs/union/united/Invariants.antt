use Rattle.std.proofs.Common.{◌+◌, ◌||◌}
use Rattle.geom_base.specs.Points.{is_in_some}
use Rattle.region.specs.InnerUnion.{edges_left, IsJoining}
use Rattle.region.proofs.union.united.Given as goal

abbrev pub invariant-loop-top : goal.invariant-loop-top
invariant-loop-top l = IsJoining (λ p. is_in_some p l.left || is_in_some p l.right) l.a l.b l.row l.builder

abbrev pub decreases-loop-top : goal.decreases-loop-top
decreases-loop-top l = edges_left l.row l.a + edges_left l.row l.b
