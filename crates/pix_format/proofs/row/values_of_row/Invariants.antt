use Rattle.std.proofs.Common.{◌≡◌, ℕ, ◌<◌, get_or}
use Rattle.pix_format.specs.Packing.{unpacked888}
use Rattle.pix_format.specs.Value.{black}
use Rattle.pix_format.proofs.row.values_of_row.Given as goal

-- the values below k hold their colours
abbrev pub invariant-loop-k : goal.invariant-loop-k
invariant-loop-k l = (j : ℕ) → j < l.k → unpacked888 (get_or l.values j 0) ≡ get_or l.colours j black
