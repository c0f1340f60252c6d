use Rattle.std.proofs.Common.{refl}
use Rattle.linear_tests.proofs.StageLemmas.{can_draw, coordinates_fit, origin_fits}
use Rattle.linear_tests.proofs.calls.blt.Goals as goal

pub hand_over-requires-clause-can : goal.hand_over-requires-clause-can
hand_over-requires-clause-can g c =
    let h = c.requires.stage.screen in
    let p = c.in_ok-props.props in
    can_draw _ _ _ _ h refl refl tt c.in_ok-clip.ensures.inside (coordinates_fit, origin_fits, origin_fits, origin_fits) p.colours
    ((rw (c.on-source.ensures.layout, c.new-2.ensures) p.source, p.target), refl, (λ u. refl), (λ u. rw (c.on-mask.ensures.layout, c.new-3.ensures) refl))
