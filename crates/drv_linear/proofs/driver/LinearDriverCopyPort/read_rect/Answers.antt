use Rattle.std.proofs.Common.{◌∙◌, length, ap}
use Rattle.drv_linear.proofs.LinearLemmas.{held_still}
use Rattle.drv_linear.proofs.driver.LinearDriverCopyPort.read_rect.Goals as goal

pub invariant_of-self : goal.invariant_of-self
invariant_of-self g c = let d = c.args.self.now in record { holds = held_still d.screen (g.P.LinearMem.bytes d.port) _ (ap length c.touch.ensures.bytes) d.holds }

pub read_rect_on-requires-clause-holds : goal.read_rect_on-requires-clause-holds
read_rect_on-requires-clause-holds g c =
    let d = c.args.self.now in
    held_still d.screen (g.P.LinearMem.bytes d.port) c.bits.result.now (ap length (c.bits.ensures.value ∙ c.touch.ensures.bytes)) d.holds c.in-Some.screen c.in-Some.is

pub invariant_of-self-2 : goal.invariant_of-self-2
invariant_of-self-2 g c =
    let d = c.args.self.now in
    let after = g.met.P.LinearMem.bytes_with c.touch.new.self c.bits.result.now (ap length c.bits.ensures.value) in
    record { holds = held_still d.screen (g.P.LinearMem.bytes d.port) _ (ap length (after ∙ c.bits.ensures.value ∙ c.touch.ensures.bytes)) d.holds }
