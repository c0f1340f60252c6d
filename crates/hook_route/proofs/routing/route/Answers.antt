use Rattle.std.proofs.Common.{◌∙◌, ap}
use Rattle.ddi_driver.specs.Hook.{given_for}
use Rattle.hook_route.specs.RouteLaws.{by_engine, same_asked, wanting}
use Rattle.hook_route.proofs.routing.route.Goals as goal

pub returns-then-not-reserve-clause-routed : goal.returns-then-not-reserve-clause-routed
returns-then-not-reserve-clause-routed g c = wanting _ _ _ _ c.requires.empty c.reserve.ensures.rects c.reserve.ensures.kept

pub returns-clause-routed : goal.returns-clause-routed
returns-clause-routed g c =
    let u = c.in_default.ensures.none in
    rw c.managed.ensures (by_engine _ _ _ _ _ c.args.drawn.now c.reserve.new.drawn c.offer.new.drawn _ c.draw_managed.result
    (c.reserve.ensures.rects ∙ c.requires.empty) c.reserve.ensures.kept u
    (same_asked c.args.call.now _ _ _ _ _ _
    (c.inputs_for-inputs.ensures ∙ ap (λ face. given_for c.args.call.now c.args.src c.args.mask c.args.xlate.now c.args.table.now face) c.offer.ensures.face)
    u.shown c.offer.ensures.rects)
    c.draw_managed.ensures)
