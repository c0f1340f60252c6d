use Rattle.std.proofs.Common.{◌∙◌, sym, arith}
use Rattle.std.proofs.lemmas.Bool.{false≢true}
use Rattle.brush_obj.specs.Calls.{held_of}
use Rattle.eng_calls.proofs.HeldLemmas.{held_for, held_none, held_some, live_held, no_wider}
use Rattle.eng_calls.proofs.copies.held_part.Goals as goal

pub returns-then-not-has_points-clause-ok : goal.returns-then-not-has_points-clause-ok
returns-then-not-has_points-clause-ok g c =
    let state = g.P.Pictured.state c.args.port.now in
    let e = sym c.held.ensures ∙ c.in-Some.is in
    held_for (held_of c.args.call.now) c.in-Some.target c.args.call.now state.shown c.args.frame.now _ e
    (held_none c.in-Some.target c.args.call.now state.shown c.args.frame.now c.source_rect-rect.result
    (live_held (held_of c.args.call.now) c.in-Some.target state.shown e c.requires.held)
    (λ h. false≢true (sym c.if-not-has_points.true ∙ c.has_points.ensures.points.1 h))
    (rw c.info_of.ensures.size at c.source_rect-rect.ensures.points))

pub copied-requires-clause-room : goal.copied-requires-clause-room
copied-requires-clause-room g c =
    let less = no_wider c.args.call.now c.args.frame.now c.info_of.result.size c.source_rect-rect.result c.source_rect-rect.ensures.points
    (c.has_points.ensures.points.0 c.if-not-has_points.false) in
    omega (arith, less, c.requires.room)

pub returns-clause-ok : goal.returns-clause-ok
returns-clause-ok g c =
    let state = g.P.Pictured.state c.args.port.now in
    let e = sym c.held.ensures ∙ c.in-Some.is in
    let live = live_held (held_of c.args.call.now) c.in-Some.target state.shown e c.requires.held in
    held_for (held_of c.args.call.now) c.in-Some.target c.args.call.now state.shown c.args.frame.now _ e
    (held_some c.in-Some.target c.args.call.now state.shown c.args.frame.now c.source_rect-rect.result _ live
    (state.sound c.in-Some.target live).sides c.in_ok-pixels.ensures.ok c.corner-corner.ensures
    (rw c.info_of.ensures.size at c.source_rect-rect.ensures.inside) (rw c.info_of.ensures.size at c.source_rect-rect.ensures.points))
