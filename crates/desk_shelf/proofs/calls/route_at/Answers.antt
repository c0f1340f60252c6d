use Rattle.geom_base.specs.declared.target.Target.TheVariants.{Screen}
use Rattle.copy_port.specs.Given.{asked_of}
use Rattle.copy_port.specs.State.{PortState, surface_of}
use Rattle.ddi_driver.specs.Hook.{given_for}
use Rattle.ddi_driver.specs.Slots.{AreRealised}
use Rattle.hook_route.specs.Routes.{Routed}
use Rattle.desk_shelf.specs.Shelf.{at_place, others_set}
use Rattle.desk_shelf.proofs.calls.route_at.Goals as goal

pub returns-clause-routed : goal.returns-clause-routed
returns-clause-routed g c =
    let given = given_for c.args.call.now c.args.src c.args.mask c.args.xlate.now c.args.table.now c.args.brush.now.face in
    at_place _ _ _ _ _ (λ (a b : PortState). Routed (asked_of c.args.call.now given a.shown c.args.clip.now.rects) a b c.args.drawn.now c.route.new.drawn c.route.result)
    c.requires.place c.index_mut-driver.ensures.value c.route.ensures.routed

pub returns-clause-slots : goal.returns-clause-slots
returns-clause-slots g c =
    at_place _ _ _ _ c.route.new.driver (λ (a b : PortState). AreRealised c.route.new.brush (surface_of a.shown Screen))
    c.requires.place c.index_mut-driver.ensures.value c.route.ensures.slots

pub returns-clause-others : goal.returns-clause-others
returns-clause-others g c = others_set _ _ _
