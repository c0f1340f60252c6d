use Rattle.std.proofs.Common.{◌∙◌, refl, sym}
use Rattle.copy_port.specs.Classes.{hook_of}
use Rattle.ddi_driver.specs.declared.answers.HookAnswer.TheVariants as hook
use Rattle.hook_route.specs.RouteLaws.{by_decline, by_hook}
use Rattle.hook_route.proofs.offer.offer.Goals as goal

pub returns-in-Done-clause-some : goal.returns-in-Done-clause-some
returns-in-Done-clause-some g c =
    by_hook _ _ _ _ _ hook.Done refl c.requires.empty
    (sym (c.hooks.ensures (hook_of c.args.call.now)) ∙ sym (rw c.hook_of.ensures at c.if-not-has.ensures)) c.in-Done.ensures.hook

pub returns-in-Fault-clause-some : goal.returns-in-Fault-clause-some
returns-in-Fault-clause-some g c =
    by_hook _ _ _ _ _ hook.Fault refl c.requires.empty
    (sym (c.hooks.ensures (hook_of c.args.call.now)) ∙ sym (rw c.hook_of.ensures at c.if-not-has.ensures)) c.in-Fault.ensures.hook

pub returns-in-NoMemory-clause-some : goal.returns-in-NoMemory-clause-some
returns-in-NoMemory-clause-some g c =
    by_hook _ _ _ _ _ hook.NoMemory refl c.requires.empty
    (sym (c.hooks.ensures (hook_of c.args.call.now)) ∙ sym (rw c.hook_of.ensures at c.if-not-has.ensures)) c.in-NoMemory.ensures.hook

pub returns-in-Declined-clause-none : goal.returns-in-Declined-clause-none
returns-in-Declined-clause-none g c =
    by_decline _ _ _ _ _
    (sym (c.hooks.ensures (hook_of c.args.call.now)) ∙ sym (rw c.hook_of.ensures at c.if-not-has.ensures)) c.in-Declined.ensures.hook
