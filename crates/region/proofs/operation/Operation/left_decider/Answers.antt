use Rattle.region.proofs.DecideLemmas.{left_of_union, left_of_intersect, left_of_subtract, left_of_xor}
use Rattle.region.proofs.operation.Operation.left_decider.Goals as goal

pub returns-in-Union : goal.returns-in-Union
returns-in-Union c = rw c.in-Union.is left_of_union

pub returns-in-Intersect : goal.returns-in-Intersect
returns-in-Intersect c = rw c.in-Intersect.is left_of_intersect

pub returns-in-Subtract : goal.returns-in-Subtract
returns-in-Subtract c = rw c.in-Subtract.is left_of_subtract

pub returns-in-Xor : goal.returns-in-Xor
returns-in-Xor c = rw c.in-Xor.is left_of_xor
