use Rattle.brush_obj.specs.declared.draw_call.DrawCall.TheVariants.{Blt}
use Rattle.copy_port.specs.Given.{given_blt}
use Rattle.eng_calls.specs.Inputs.{given_of}
use Rattle.ddi_driver.specs.HookLaws.{hook_given}
use Rattle.punt_driver.specs.State.{shown_on}
use Rattle.punt_driver.proofs.driver.PuntDriverDisplayDriver.bit_blt.Goals as goal

pub returns-clause-hook : goal.returns-clause-hook
returns-clause-hook c =
    hook_given (Blt c.args.call.now) (given_of c.blt-inputs.result)
    (given_blt c.args.src c.args.mask c.args.xlate.now c.args.table.now c.args.brush.now.face)
    (shown_on c.args.self.now.screen) c.args.clip.now.rects _ _ _ _ _ c.blt-inputs.ensures c.punt.ensures
