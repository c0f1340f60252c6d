use Rattle.linear_tests.proofs.StageLemmas.{after_read}
use Rattle.linear_tests.proofs.stage.pixels.Goals as goal

pub returns : goal.returns
returns g c = record { stage = after_read _ _ _ c.read_port-answer.ensures.keeps c.requires.stage }
