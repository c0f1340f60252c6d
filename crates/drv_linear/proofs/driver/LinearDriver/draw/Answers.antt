use Rattle.std.proofs.Common.{◌∙◌, ◌≡◌, is_some, length, ap, sym, subst, refl, arith}
use Rattle.geom_base.specs.Points.{is_in_some}
use Rattle.brush_obj.specs.Calls.{target_of}
use Rattle.copy_port.specs.Given.{asked_of}
use Rattle.copy_port.specs.State.{Shown, drawn_on, next_count}
use Rattle.eng_calls.specs.Inputs.{given_of}
use Rattle.ddi_driver.specs.HookLaws.{hook_declined, hook_done, hook_fault, hook_wanting}
use Rattle.drv_linear.specs.State.{rest_with, shown_at, state_with}
use Rattle.drv_linear.proofs.LinearLemmas.{counts_offer, held_still, on_err}
use Rattle.drv_linear.proofs.driver.LinearDriver.draw.Goals as goal

pub returns-then-declines-clause-hook : goal.returns-then-declines-clause-hook
returns-then-declines-clause-hook g c = λ d.
    let s = c.args.self.now in
    let bytes = g.P.LinearMem.bytes s.port in
    let mid = state_with s.screen bytes s.holds (g.P.LinearMem.failed s.port) s.written (rest_with (is_some s.screen) s.policy (next_count s.offered) s.declined s.asked) in
    let offer = counts_offer s.screen bytes s.holds s.holds (g.P.LinearMem.failed s.port) s.written s.policy s.offered s.declined s.asked
    (target_of c.args.call.now) c.requires.can.alive in
    let refused = rw c.class_with.ensures at (sym c.declines.ensures ∙ c.if-declines.true) in
    hook_declined _ _ mid _ d offer (record {
      shown = refl;
      faults = refl;
      written = refl;
      offered = refl;
      offered_bitmaps = refl;
      declined = refl;
      mode = record { driver = record { kind = refl; limits = refl }; enabled = refl; hooks = refl; cuts = refl };
      bitmaps = record { asked = refl; made = refl };
    }) refused

pub invariant_of-self-2 : goal.invariant_of-self-2
invariant_of-self-2 g c = let s = c.args.self.now in record { holds = held_still s.screen (g.P.LinearMem.bytes s.port) _ (ap length c.touch.ensures.bytes) s.holds }

pub returns-then-is_err-clause-hook : goal.returns-then-is_err-clause-hook
returns-then-is_err-clause-hook g c = λ d.
    let s = c.args.self.now in
    let bytes = g.P.LinearMem.bytes s.port in
    let mid = state_with s.screen bytes s.holds (g.P.LinearMem.failed s.port) s.written (rest_with (is_some s.screen) s.policy (next_count s.offered) s.declined s.asked) in
    let offer = counts_offer s.screen bytes s.holds s.holds (g.P.LinearMem.failed s.port) s.written s.policy s.offered s.declined s.asked
    (target_of c.args.call.now) c.requires.can.alive in
    hook_fault _ _ mid _ d offer (record { later = c.touch.ensures.later; written = refl; rest = refl })
    (ap (shown_at s.screen) c.touch.ensures.bytes) (on_err c.touch.result (sym c.is_err.ensures.value ∙ c.if-is_err.true) c.touch.ensures.cause)

pub returns-in-Ok-clause-hook : goal.returns-in-Ok-clause-hook
returns-in-Ok-clause-hook g c = λ d.
    let s = c.args.self.now in
    let bytes = g.P.LinearMem.bytes s.port in
    let mid = state_with s.screen bytes s.holds (g.P.LinearMem.failed s.port) s.written (rest_with (is_some s.screen) s.policy (next_count s.offered) s.declined s.asked) in
    let offer = counts_offer s.screen bytes s.holds s.holds (g.P.LinearMem.failed s.port) s.written s.policy s.offered s.declined s.asked
    (target_of c.args.call.now) c.requires.can.alive in
    let touched = ap (shown_at s.screen) c.touch.ensures.bytes in
    let h = c.in-Ok.ensures.serves in
    let after = c.draw_on_bytes.new.self in
    hook_done _ _ mid _ d offer (record { later = omega (arith, c.touch.ensures.later, h.later); written = h.written; rest = h.rest })
    (subst (λ (m : Shown). shown_at after.screen (g.P.LinearMem.bytes after.port) ≡ drawn_on (target_of c.args.call.now)
    (asked_of c.args.call.now (given_of c.args.inputs.now) m c.args.clip.now.rects).new (λ p. is_in_some p c.args.clip.now.rects) m) touched c.in-Ok.ensures.drawn)

pub returns-in-Err-clause-hook : goal.returns-in-Err-clause-hook
returns-in-Err-clause-hook g c = λ d.
    let s = c.args.self.now in
    let bytes = g.P.LinearMem.bytes s.port in
    let mid = state_with s.screen bytes s.holds (g.P.LinearMem.failed s.port) s.written (rest_with (is_some s.screen) s.policy (next_count s.offered) s.declined s.asked) in
    let offer = counts_offer s.screen bytes s.holds s.holds (g.P.LinearMem.failed s.port) s.written s.policy s.offered s.declined s.asked
    (target_of c.args.call.now) c.requires.can.alive in
    let h = c.in-Err.ensures.serves in
    hook_wanting _ _ mid _ d offer (record { later = omega (arith, c.touch.ensures.later, h.later); written = h.written; rest = h.rest })
    (c.in-Err.ensures.unchanged ∙ ap (shown_at s.screen) c.touch.ensures.bytes)
