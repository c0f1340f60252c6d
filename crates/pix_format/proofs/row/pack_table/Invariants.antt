use Rattle.std.proofs.Common.{◌≡◌, ℕ, ◌<◌, ◌≤◌, get_or}
use Rattle.pix_format.specs.Colour.{nearest}
use Rattle.pix_format.specs.InnerKept.{KeepsNearest}
use Rattle.pix_format.specs.Packing.{unpacked888}
use Rattle.pix_format.proofs.row.pack_table.Given as goal

-- the values below i are new, the others old
abbrev pub invariant-loop-i : goal.invariant-loop-i
invariant-loop-i l = record {
  done : (k : ℕ) → k < l.i → get_or l.values k 0 ≡ nearest l.table (unpacked888 (get_or l.initial.values k 0));
  rest : (k : ℕ) → l.i ≤ k → get_or l.values k 0 ≡ get_or l.initial.values k 0;
  kept : KeepsNearest l.table l.asked l.found;
}
