use Rattle.brush_obj.proofs.MoveLemmas.{lends, moves}
use Rattle.brush_obj.proofs.draw_call.calls_move.Goals as goal

pub returns-clause-moved : goal.returns-clause-moved
returns-clause-moved c = moves

pub returns-clause-lent : goal.returns-clause-lent
returns-clause-lent c = lends
