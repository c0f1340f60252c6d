use Rattle.std.proofs.lemmas.Result.{on_ok_weaker}
use Rattle.linear_tests.proofs.StageLemmas.{begun}
use Rattle.linear_tests.proofs.stage.enable_anew.Goals as goal

pub returns : goal.returns
returns g c = on_ok_weaker c.enable.result (λ b. begun c.in_ok-mode.mode _ c.in_ok-mode.ensures b) c.enable.ensures.ok
