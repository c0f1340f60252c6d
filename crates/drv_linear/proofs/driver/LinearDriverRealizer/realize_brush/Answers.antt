use Rattle.std.proofs.Common.{length, ap}
use Rattle.drv_linear.proofs.LinearLemmas.{held_still}
use Rattle.drv_linear.proofs.driver.LinearDriverRealizer.realize_brush.Goals as goal

pub invariant_of-self : goal.invariant_of-self
invariant_of-self g c = let d = c.args.self.now in record { holds = held_still d.screen (g.P.LinearMem.bytes d.port) _ (ap length c.touch.ensures.bytes) d.holds }
