use Rattle.std.proofs.Common.{length, ◌-◌, ◌≡◌, ◌≤◌, ◌<◌, ◌%◌, ◌⊎◌, ℕ, get_or}
use Rattle.brush_obj.proofs.repeating.repeat.Given as goal

-- What is filled holds the first values again and again, and ends where they begin anew, or at the end of the row. The first ones
-- stand as they were.
abbrev pub invariant-loop-filled : goal.invariant-loop-filled
invariant-loop-filled l = record {
  start : l.period ≤ l.filled;
  place : (l.filled % l.period ≡ 0) ⊎ (length l.row ≤ l.filled);
  done : (k : ℕ) → k < l.filled → k < length l.row → get_or l.row k 0 ≡ get_or l.initial.row (k % l.period) 0;
}

abbrev pub decreases-loop-filled : goal.decreases-loop-filled
decreases-loop-filled l = length l.initial.row - l.filled
