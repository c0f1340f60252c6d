use Rattle.std.proofs.Common.{◌∙◌, ap, length}
use Rattle.surf_obj.specs.declared.layout.Layout.{Layout}
use Rattle.brush_obj.specs.Calls.{held_of, target_of}
use Rattle.copy_port.specs.State.{surface_of}
use Rattle.eng_calls.specs.Copies.{begins_at}
use Rattle.eng_calls.proofs.CopyStepLemmas.{drawn_on_copy}
use Rattle.eng_calls.proofs.HeldLemmas.{frame_on_target, held_place, lent_place}
use Rattle.eng_calls.proofs.SuitLemmas.{lent_moves, lent_suits}
use Rattle.eng_calls.proofs.on_copy.drawn_copy.Goals as goal

pub held_part-requires-clause-frame : goal.held_part-requires-clause-frame
held_part-requires-clause-frame g c =
    frame_on_target c.args.framed.now.frame (target_of c.args.call.now) (g.P.Pictured.state c.args.port.now) c.requires.can.alive c.requires.inside

pub stand_in-requires-clause-on_target : goal.stand_in-requires-clause-on_target
stand_in-requires-clause-on_target g c =
    frame_on_target c.args.framed.now.frame (target_of c.args.call.now) (g.P.Pictured.state c.args.port.now) c.requires.can.alive c.requires.inside

pub lent_from-call-requires : goal.lent_from-call-requires
lent_from-call-requires g c =
    rw c.begins_at.ensures (lent_place c.args.call.now (begins_at c.in_ok-held.held) c.requires.can.coordinates
    (held_place (held_of c.args.call.now) c.args.call.now (g.P.Pictured.state c.args.port.now).shown c.args.framed.now.frame c.in_ok-held.held
    c.in_ok-held.ensures.ok))

pub draw_lent-requires-clause-on_target : goal.draw_lent-requires-clause-on_target
draw_lent-requires-clause-on_target g c =
    frame_on_target c.args.framed.now.frame (target_of c.args.call.now) (g.P.Pictured.state c.args.port.now) c.requires.can.alive c.requires.inside

pub draw_lent-requires-clause-moves : goal.draw_lent-requires-clause-moves
draw_lent-requires-clause-moves g c =
    rw c.lent_from-call.ensures (lent_moves c.args.call.now c.args.framed.now.frame c.begins_at.result c.requires.can.coordinates
    (draw_lent-requires-clause-on_target g c))

pub draw_lent-requires-clause-suits : goal.draw_lent-requires-clause-suits
draw_lent-requires-clause-suits g c = λ lent lends.
    let state = g.P.Pictured.state c.args.port.now in
    let s = surface_of state.shown (target_of c.args.call.now) in
    let colours = ap length c.requires.can.table ∙ (state.sound (target_of c.args.call.now) c.requires.can.alive).colours in
    let same = rw c.in_ok-held.ensures.keeps.shown at c.in_ok-pixels.ensures.ok.format in
    rw (c.lent_from-call.ensures, same)
    (lent_suits c.args.call.now c.args.inputs.now lent state.shown c.args.framed.now.frame c.in_ok-held.held c.begins_at.result s.format
    (record { lent_as = lends; live = c.requires.can.held; held = c.in_ok-held.ensures.ok; colours = colours }) c.requires.can.suits)

pub returns-in-Ok-clause-ok : goal.returns-in-Ok-clause-ok
returns-in-Ok-clause-ok g c =
    let state = g.P.Pictured.state c.args.port.now in
    let copy = rw c.in_ok-held.ensures.keeps.shown at c.in_ok-pixels.ensures.ok in
    let drew = rw (c.lent_from-call.ensures, c.begins_at.ensures) at c.in-Ok.ensures.values in
    drawn_on_copy c.args.call.now c.args.inputs.now state.shown c.args.framed.now.frame c.args.framed.now.clip.now.rects c.in_ok-held.held c.in_ok-pixels.pixels
    c.draw_lent.new.pixels c.calls_move.ensures.moved c.calls_move.ensures.lent (record {
      can = c.requires.can;
      framed = c.requires.frame;
      held = c.in_ok-held.ensures.ok;
      copy = copy;
      lent = drew.0;
      lent_as = drew.1;
      size = ap (λ (l : Layout). l.size) c.in-Ok.ensures.layout;
      format = ap (λ (l : Layout). l.format) c.in-Ok.ensures.layout;
      values = drew.2;
    })
