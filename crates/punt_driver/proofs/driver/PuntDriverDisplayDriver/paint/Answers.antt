use Rattle.brush_obj.specs.declared.draw_call.DrawCall.TheVariants.{Paint}
use Rattle.copy_port.specs.Given.{given_paint}
use Rattle.eng_calls.specs.Inputs.{given_of}
use Rattle.ddi_driver.specs.HookLaws.{hook_given}
use Rattle.punt_driver.specs.State.{shown_on}
use Rattle.punt_driver.proofs.driver.PuntDriverDisplayDriver.paint.Goals as goal

pub returns-clause-hook : goal.returns-clause-hook
returns-clause-hook c =
    hook_given (Paint c.args.call.now) (given_of c.paint-inputs.result)
    (given_paint c.args.table.now c.args.brush.now.face)
    (shown_on c.args.self.now.screen) c.args.clip.now.rects _ _ _ _ _ c.paint-inputs.ensures c.punt.ensures
