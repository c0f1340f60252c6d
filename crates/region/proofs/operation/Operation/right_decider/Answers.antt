use Rattle.region.proofs.DecideLemmas.{right_of_union, right_of_intersect, right_of_subtract, right_of_xor}
use Rattle.region.proofs.operation.Operation.right_decider.Goals as goal

pub returns-in-Union : goal.returns-in-Union
returns-in-Union c = rw c.in-Union.is right_of_union

pub returns-in-Intersect : goal.returns-in-Intersect
returns-in-Intersect c = rw c.in-Intersect.is right_of_intersect

pub returns-in-Subtract : goal.returns-in-Subtract
returns-in-Subtract c = rw c.in-Subtract.is right_of_subtract

pub returns-in-Xor : goal.returns-in-Xor
returns-in-Xor c = rw c.in-Xor.is right_of_xor
