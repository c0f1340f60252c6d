use Rattle.std.proofs.Common.{◌≡◌, ◌++◌, length, drop}
use Rattle.desk_run.specs.Texts.{hex_digits}
use Rattle.desk_run.proofs.dump.put_hex.Given as goal

abbrev pub invariant-loop-k : goal.invariant-loop-k
invariant-loop-k l = hex_digits l.k l.rest ++ drop l.k l.cell ≡ hex_digits (length l.fn.cell) l.value
