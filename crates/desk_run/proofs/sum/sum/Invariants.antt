use Rattle.std.proofs.Common.{◌≡◌, take}
use Rattle.desk_run.specs.Texts.{sum_of}
use Rattle.desk_run.proofs.sum.sum.Given as goal

abbrev pub invariant-loop-value : goal.invariant-loop-value
invariant-loop-value l = l.sum ≡ sum_of (take l.value-index l.values)
