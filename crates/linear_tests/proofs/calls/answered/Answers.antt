use Rattle.linear_tests.proofs.StageLemmas.{after_hook, after_route}
use Rattle.linear_tests.proofs.calls.answered.Goals as goal

pub returns-in-Ask : goal.returns-in-Ask
returns-in-Ask g c = record { stage = after_hook _ _ _ _ _ _ c.ask.ensures.hook c.requires.stage }

pub returns-in-Route : goal.returns-in-Route
returns-in-Route g c = record { stage = after_route _ _ _ _ _ _ c.route.ensures.routed c.requires.stage }
