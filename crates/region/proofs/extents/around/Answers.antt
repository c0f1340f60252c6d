use Rattle.std.proofs.Common.{arith}
use Rattle.std.proofs.lemmas.Int.{to_z-of_z}
use Rattle.region.proofs.extents.around.Goals as goal

pub returns-clause-left : goal.returns-clause-left
returns-clause-left c = grind (arith, to_z-of_z)

pub returns-clause-top : goal.returns-clause-top
returns-clause-top c = grind (arith, to_z-of_z)

pub returns-clause-right : goal.returns-clause-right
returns-clause-right c = grind (arith, to_z-of_z)

pub returns-clause-bottom : goal.returns-clause-bottom
returns-clause-bottom c = grind (arith, to_z-of_z)
