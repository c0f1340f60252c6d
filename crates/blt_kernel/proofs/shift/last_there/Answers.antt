use Rattle.std.proofs.Common.{arith}
use Rattle.std.proofs.lemmas.Int.{ints, clamps}
use Rattle.blt_kernel.proofs.shift.last_there.Goals as goal

pub returns : goal.returns
returns c = omega (arith, ints, clamps)
