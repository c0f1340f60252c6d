use Rattle.std.proofs.Common.{◌∙◌, refl}
use Rattle.geom_base.specs.Points.{corner_of}
use Rattle.clip_obj.specs.Clip.{to_origin}
use Rattle.eng_calls.proofs.SuitLemmas.{all_inside, frame_moves, moved_holds, moved_suits}
use Rattle.eng_calls.proofs.on_copy.draw_on_copy.Goals as goal

pub seen_from-requires-clause-moves : goal.seen_from-requires-clause-moves
seen_from-requires-clause-moves c = rw c.corner-corner.ensures (frame_moves c.args.framed.now.frame c.requires.on_target)

pub shifted-call-requires : goal.shifted-call-requires
shifted-call-requires c = rw (c.origin_from.ensures, c.corner-corner.ensures) c.requires.moves

pub draw_seen-requires-clause-inside : goal.draw_seen-requires-clause-inside
draw_seen-requires-clause-inside c = rw c.requires.size (all_inside c.args.framed.now.frame c.args.framed.now.clip.now.rects c.in_ok-clip.clip.rects
    (c.in_ok-clip.ensures.rects ∙ rw c.corner-corner.ensures refl) c.requires.frame.within)

pub draw_seen-requires-clause-unheld : goal.draw_seen-requires-clause-unheld
draw_seen-requires-clause-unheld c = rw c.shifted-call.ensures (moved_holds c.args.call.now c.origin_from.result c.requires.unheld)

pub draw_seen-requires-clause-suits : goal.draw_seen-requires-clause-suits
draw_seen-requires-clause-suits c = rw c.shifted-call.ensures (moved_suits c.args.call.now c.origin_from.result c.args.inputs.now _ c.requires.suits)

pub returns-clause-values : goal.returns-clause-values
returns-clause-values c =
    let at = rw (c.shifted-call.ensures, c.origin_from.ensures, c.in_ok-clip.ensures.rects, c.corner-corner.ensures) at c.draw_seen.ensures.values in
    rw (moved_holds c.args.call.now (to_origin (corner_of c.args.framed.now.frame)) c.requires.unheld) at at
