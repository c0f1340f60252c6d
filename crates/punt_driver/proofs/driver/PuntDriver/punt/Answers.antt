use Rattle.std.proofs.Common.{refl}
use Rattle.brush_obj.specs.Calls.{target_of}
use Rattle.copy_port.specs.Given.{asked_of}
use Rattle.eng_calls.specs.Inputs.{given_of}
use Rattle.ddi_driver.specs.HookLaws.{hook_punted}
use Rattle.punt_driver.proofs.PuntLemmas.{counts_offer, set_back}
use Rattle.punt_driver.specs.State.{shown_on, state_with}
use Rattle.punt_driver.proofs.driver.PuntDriver.punt.Goals as goal

pub returns : goal.returns
returns c =
    let d = c.args.self.now in
    let p = c.eng_draw_managed-answer.new.port in
    let a = asked_of c.args.call.now (given_of c.args.inputs.now) (shown_on d.screen) c.args.clip.now.rects in
    rw c.punted.ensures
    (hook_punted a _ _ (state_with p.screen p.hooks p.offered d.written p.asked) _ _ c.eng_draw_managed-answer.result
    (counts_offer d.screen d.hooks d.offered _ d.written d.asked (target_of c.args.call.now) c.requires.can.alive refl)
    (set_back _ _ _ _ _ p.screen p.hooks p.offered p.written d.written p.asked _ _ _ c.eng_draw_managed-answer.ensures) refl)
