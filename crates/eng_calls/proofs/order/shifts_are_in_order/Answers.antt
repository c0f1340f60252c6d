use Rattle.eng_calls.proofs.ShiftLemmas.{shifts_are_in_order}
use Rattle.eng_calls.proofs.order.shifts_are_in_order.Goals as goal

pub returns : goal.returns
returns c = shifts_are_in_order
