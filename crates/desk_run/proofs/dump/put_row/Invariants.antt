use Rattle.std.proofs.Common.{◌≡◌, ◌*◌, take}
use Rattle.std.specs.List.{flat_map}
use Rattle.desk_run.specs.Texts.{hex_digits}
use Rattle.desk_run.proofs.dump.put_row.Given as goal

abbrev pub invariant-loop-i : goal.invariant-loop-i
invariant-loop-i l = take (l.digits * l.i) l.line ≡ flat_map (hex_digits l.digits) (take l.i l.values)
