use Rattle.eng_calls.proofs.HeartLemmas.{steps_are_one}
use Rattle.eng_calls.proofs.draws.steps_are_one.Goals as goal

pub returns : goal.returns
returns c = steps_are_one
