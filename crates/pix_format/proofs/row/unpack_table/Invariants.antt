use Rattle.std.proofs.Common.{◌≡◌, ℕ, ◌<◌, ◌≤◌, get_or}
use Rattle.pix_format.specs.Packing.{unpacked888}
use Rattle.pix_format.specs.Value.{black}
use Rattle.pix_format.proofs.row.unpack_table.Given as goal

-- the values below i are new, the others old
abbrev pub invariant-loop-i : goal.invariant-loop-i
invariant-loop-i l = record {
  done : (k : ℕ) → k < l.i → unpacked888 (get_or l.values k 0) ≡ get_or l.table (get_or l.initial.values k 0) black;
  rest : (k : ℕ) → l.i ≤ k → get_or l.values k 0 ≡ get_or l.initial.values k 0;
}
