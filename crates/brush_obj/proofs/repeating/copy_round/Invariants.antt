use Rattle.std.proofs.Common.{◌≡◌, ◌<◌, ◌+◌, ◌%◌, ℕ, get_or, length}
use Rattle.brush_obj.proofs.repeating.copy_round.Given as goal

-- the values below k are those of the row
abbrev pub invariant-loop-k : goal.invariant-loop-k
invariant-loop-k l = (j : ℕ) → j < l.k → get_or l.out j 0 ≡ get_or l.row ((l.from + j) % length l.row) 0
