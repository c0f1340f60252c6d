use Rattle.std.proofs.Common.{◌≡◌, ◌+◌, ◌++◌, take}
use Rattle.arrayvec.specs.ArrayVec.{array_vec_len}
use Rattle.desk_run.proofs.text.add.Given as goal

abbrev pub invariant-loop-byte : goal.invariant-loop-byte
invariant-loop-byte l = record {
  items : l.line.items ≡ l.fn.line.items ++ take l.byte-index l.piece;
  len : array_vec_len l.line ≡ array_vec_len l.fn.line + l.byte-index;
}
