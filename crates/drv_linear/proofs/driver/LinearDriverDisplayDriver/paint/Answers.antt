use Rattle.brush_obj.specs.declared.draw_call.DrawCall.TheVariants.{Paint}
use Rattle.copy_port.specs.Given.{given_paint}
use Rattle.eng_calls.specs.Inputs.{given_of}
use Rattle.ddi_driver.specs.HookLaws.{hook_given}
use Rattle.drv_linear.specs.State.{shown_at}
use Rattle.drv_linear.proofs.driver.LinearDriverDisplayDriver.paint.Goals as goal

pub returns-clause-hook : goal.returns-clause-hook
returns-clause-hook g c =
    let d = c.args.self.now in
    hook_given (Paint c.args.call.now) (given_of c.paint-inputs.result) (given_paint c.args.table.now c.args.brush.now.face)
    (shown_at d.screen (g.P.LinearMem.bytes d.port)) c.args.clip.now.rects _ _ _ _ _ c.paint-inputs.ensures (c.draw.ensures.hook _)
