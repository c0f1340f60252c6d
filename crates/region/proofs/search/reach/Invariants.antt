use Rattle.std.proofs.Common.{length, ◌-◌, ◌≤◌}
use Rattle.region.proofs.search.reach.Given as goal

abbrev pub invariant-loop-count : goal.invariant-loop-count
invariant-loop-count l = l.count ≤ length l.rects

abbrev pub decreases-loop-count : goal.decreases-loop-count
decreases-loop-count l = length l.rects - l.count
