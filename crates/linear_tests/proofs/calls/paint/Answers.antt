use Rattle.std.proofs.Common.{refl}
use Rattle.linear_tests.proofs.StageLemmas.{can_draw, coordinates_fit, origin_fits}
use Rattle.linear_tests.proofs.calls.paint.Goals as goal

pub hand_over-requires-clause-can : goal.hand_over-requires-clause-can
hand_over-requires-clause-can g c =
    let h = c.requires.stage.screen in
    let p = c.in_ok-props.props in
    can_draw _ _ _ _ h refl refl tt c.in_ok-clip.ensures.inside (coordinates_fit, origin_fits) p.colours refl
