use Rattle.std.proofs.Common.{◌∙◌, ℕ, List, Option, length, ap, subst, sym, refl, le_refl, arith, true≢false}
use Rattle.geom_base.specs.Points.{is_in}
use Rattle.geom_base.specs.Step.{nowhere, redrawn}
use Rattle.surf_obj.specs.Layout.{values_in}
use Rattle.surf_obj.specs.Rects.{with_values}
use Rattle.copy_port.specs.Laws.{draws_rect, drawn_on-nowhere, pushes_none}
use Rattle.copy_port.specs.State.{IsLive}
use Rattle.drv_linear.specs.State.{shown_at}
use Rattle.drv_linear.specs.declared.screen.Screen.{Screen}
use Rattle.drv_linear.proofs.LinearLemmas.{held_still, on_err, screen_drawn}
use Rattle.drv_linear.proofs.driver.LinearDriverCopyPort.write_rect.Goals as goal

pub invariant_of-self : goal.invariant_of-self
invariant_of-self g c = let d = c.args.self.now in record { holds = held_still d.screen (g.P.LinearMem.bytes d.port) _ (ap length c.touch.ensures.bytes) d.holds }

pub returns-then-is_err-clause-draws : goal.returns-then-is_err-clause-draws
returns-then-is_err-clause-draws g c =
    let d = c.args.self.now in
    let new = with_values c.args.rect c.args.from.now in
    record {
      more = nowhere;
      pushes = pushes_none 1 _;
      within = λ p h. absurd (true≢false (sym h));
      shown = ap (shown_at d.screen) c.touch.ensures.bytes ∙ sym (drawn_on-nowhere c.args._target new (shown_at d.screen (g.P.LinearMem.bytes d.port)));
      done = tt;
      rest = refl;
      later = c.touch.ensures.later;
      cause = on_err c.touch.result (sym c.is_err.ensures.value ∙ c.if-is_err.true) c.touch.ensures.cause;
    }

pub write_rect_on-requires-clause-holds : goal.write_rect_on-requires-clause-holds
write_rect_on-requires-clause-holds g c =
    let d = c.args.self.now in
    held_still d.screen (g.P.LinearMem.bytes d.port) c.bits.result.now (ap length (c.bits.ensures.value ∙ c.touch.ensures.bytes)) d.holds c.in-Some.screen c.in-Some.is

pub invariant_of-self-2 : goal.invariant_of-self-2
invariant_of-self-2 g c =
    let d = c.args.self.now in
    let long = c.write_rect_on.auto.bits ∙ ap length c.bits.ensures.value in
    let after = g.met.P.LinearMem.bytes_with c.touch.new.self c.write_rect_on.new.bits long in
    record { holds = held_still d.screen (g.P.LinearMem.bytes d.port) _ (ap length after ∙ long ∙ ap length c.touch.ensures.bytes) d.holds }

pub returns-clause-draws : goal.returns-clause-draws
returns-clause-draws g c =
    let d = c.args.self.now in
    let bytes = g.P.LinearMem.bytes d.port in
    let s = c.in-Some.screen in
    let new = with_values c.args.rect c.args.from.now in
    let same = c.bits.ensures.value ∙ c.touch.ensures.bytes in
    let long = c.write_rect_on.auto.bits ∙ ap length c.bits.ensures.value in
    let after = g.met.P.LinearMem.bytes_with c.touch.new.self c.write_rect_on.new.bits long in
    let live = subst (λ (o : Option Screen). IsLive (shown_at o bytes) c.args._target) c.in-Some.is c.requires.inside.alive in
    let drawn = screen_drawn s bytes c.write_rect_on.new.bits c.args._target new (λ p. is_in p c.args.rect) live
    (c.write_rect_on.ensures.values ∙ ap (λ (b : List ℕ). redrawn s.layout.size (values_in s.layout b) (λ p. is_in p c.args.rect) new) same) in
    draws_rect _ _ _ _ _ _ _ _
    (ap (shown_at d.screen) after ∙ (rw c.in-Some.is drawn))
    refl (omega (arith, g.met.P.LinearMem.failed_with c.touch.new.self c.write_rect_on.new.bits, c.touch.ensures.later)) (le_refl 1)
    c.push.ensures.rects c.push.ensures.points c.push.ensures.spare c.push.ensures.room
