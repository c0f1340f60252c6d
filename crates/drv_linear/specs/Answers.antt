-- What a hook answers, exactly.
use Rattle.std.specs.Prelude.{◌≡◌, ℕ, Option, not}
use Rattle.std.specs.Borrow.{Bor}
use Rattle.surf_obj.specs.declared.view.LentView.{LentView}
use Rattle.brush_obj.specs.declared.draw_call.DrawCall.{DrawCall}
use Rattle.copy_port.specs.declared.classes.Class.{Class}
use Rattle.eng_calls.specs.Memory.{CallMayWantMemory}
use Rattle.ddi_driver.specs.Hook.{counted, is_declined}
use Rattle.ddi_driver.specs.declared.answers.HookAnswer.{HookAnswer}
use Rattle.ddi_driver.specs.declared.answers.HookAnswer.TheVariants.{NoMemory}
use Rattle.drv_linear.specs.Policies.{declines}
use Rattle.drv_linear.specs.declared.policy.Policy.{Policy}

-- The hook call of a number is declined exactly by the policy, and else touches the device once. Memory is wanting only where a raster operation
-- needs a mask and has its own target as its source.
pub record AnswersBy (policy : Policy) (number : ℕ) (class : Class) (call : DrawCall) (source : Option (Bor LentView)) (before after : ℕ)
    (answer : HookAnswer) : Type 0 where
  pub declined : is_declined answer ≡ declines policy number class
  pub memory : answer ≡ NoMemory → CallMayWantMemory call source
  pub touches : after ≡ counted (not (is_declined answer)) before
