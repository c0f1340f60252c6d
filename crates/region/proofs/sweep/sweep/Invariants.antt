use Rattle.std.proofs.Common.{◌≡◌, ◌+◌}
use Rattle.region.specs.Operation.{holds_after}
use Rattle.region.specs.InnerSweep.{Sweeps}
use Rattle.region.proofs.sweep.sweep.Given as goal

abbrev pub invariant-loop-place : goal.invariant-loop-place
invariant-loop-place g l = (g.O.Output.limit l.out ≡ g.O.Output.limit l.initial.out) × Sweeps g.C.Cursor.set g.C.Cursor.now g.C.Cursor.is_at g.O.Output.has g.O.Output.holds g.O.Output.is_valid g.O.Output.empty
    (holds_after l.operation) l.fn.a l.fn.b l.left l.right l.out

abbrev pub decreases-loop-place : goal.decreases-loop-place
decreases-loop-place g l = g.C.Cursor.left l.left + g.C.Cursor.left l.right
