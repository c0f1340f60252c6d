use Rattle.std.proofs.Common.{◌∙◌, ℕ, List, Option, length, ap, subst}
use Rattle.std.proofs.lemmas.Result.{on_ok_weaker}
use Rattle.geom_base.specs.Points.{is_in_some}
use Rattle.geom_base.specs.Step.{redrawn}
use Rattle.surf_obj.specs.Layout.{values_in}
use Rattle.brush_obj.specs.Calls.{held_of, new_of_call}
use Rattle.copy_port.specs.Given.{CanDraw}
use Rattle.eng_calls.specs.Inputs.{drawn_with, given_of}
use Rattle.drv_linear.specs.State.{shown_at}
use Rattle.drv_linear.specs.declared.screen.Screen.{Screen}
use Rattle.drv_linear.proofs.LinearLemmas.{asked_drawn, held_still, own_of, suits_bytes}
use Rattle.drv_linear.proofs.driver.LinearDriver.draw_on_bytes.Goals as goal

pub eng_draw-requires-clause-holds : goal.eng_draw-requires-clause-holds
eng_draw-requires-clause-holds g c =
    let d = c.args.self.now in
    held_still d.screen (g.P.LinearMem.bytes d.port) c.bits.result.now (ap length c.bits.ensures.value) d.holds c.in-Some.screen c.in-Some.is

pub eng_draw-requires-clause-suits : goal.eng_draw-requires-clause-suits
eng_draw-requires-clause-suits g c =
    let d = c.args.self.now in
    let bytes = g.P.LinearMem.bytes d.port in
    suits_bytes c.in-Some.screen bytes c.args.call.now c.args.inputs.now c.args.clip.now.rects
    (subst (λ (o : Option Screen). CanDraw c.args.call.now (given_of c.args.inputs.now) (shown_at o bytes) c.args.clip.now.rects) c.in-Some.is c.requires.can)

pub invariant_of-self-2 : goal.invariant_of-self-2
invariant_of-self-2 g c =
    let d = c.args.self.now in
    let long = c.eng_draw.auto.bits ∙ ap length c.bits.ensures.value in
    let after = g.met.P.LinearMem.bytes_with d.port c.eng_draw.new.bits long in
    record { holds = held_still d.screen (g.P.LinearMem.bytes d.port) _ (ap length after ∙ long) d.holds }

pub returns-clause-drawn : goal.returns-clause-drawn
returns-clause-drawn g c =
    let d = c.args.self.now in
    let bytes = g.P.LinearMem.bytes d.port in
    let s = c.in-Some.screen in
    let i = c.args.inputs.now in
    let call = c.args.call.now in
    let rects = c.args.clip.now.rects in
    let can = subst (λ (o : Option Screen). CanDraw call (given_of i) (shown_at o bytes) rects) c.in-Some.is c.requires.can in
    let long = c.eng_draw.auto.bits ∙ ap length c.bits.ensures.value in
    let after = g.met.P.LinearMem.bytes_with d.port c.eng_draw.new.bits long in
    on_ok_weaker c.eng_draw.result (λ is. ap (shown_at d.screen) after ∙ (rw c.in-Some.is (asked_drawn s bytes c.eng_draw.new.bits call i rects can
    (is ∙ ap (λ (b : List ℕ). redrawn s.layout.size (values_in s.layout b) (λ p. is_in_some p rects)
    (new_of_call call (drawn_with i (held_of call) (own_of s b) s.layout.format))) c.bits.ensures.value)))) c.eng_draw.ensures.values
