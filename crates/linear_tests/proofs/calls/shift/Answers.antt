use Rattle.std.proofs.Common.{refl, arith}
use Rattle.std.proofs.lemmas.Int.{ints}
use Rattle.linear_tests.proofs.StageLemmas.{can_draw, coordinates_fit, screen_suits}
use Rattle.linear_tests.proofs.calls.shift.Goals as goal

pub hand_over-requires-clause-can : goal.hand_over-requires-clause-can
hand_over-requires-clause-can g c =
    let h = c.requires.stage.screen in
    let p = c.in_ok-props.props in
    can_draw _ _ _ _ h refl refl (h.alive, refl) c.in_ok-clip.ensures.inside
    (coordinates_fit, ((omega (arith, ints), omega (arith, ints)), (omega (arith, ints), omega (arith, ints)))) p.colours
    (screen_suits _ p.xlate p.table h p.source p.target)
