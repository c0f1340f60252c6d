use Rattle.std.proofs.Common.{◌∙◌, ap, sym, subst, arith, set, get_or}
use Rattle.std.proofs.lemmas.List.{get_or_default}
use Rattle.std.proofs.lemmas.List.Edits.{map_over_more}
use Rattle.geom_base.specs.Points.{no_rect, moved_rect, RectMoves}
use Rattle.clip_obj.specs.Clip.{to_origin}
use Rattle.clip_obj.proofs.MovedLemmas.{not_moved, all_moved}
use Rattle.clip_obj.proofs.moved.move_to_origin.Goals as goal

pub seen_from-requires : goal.seen_from-requires
seen_from-requires c =
    subst (RectMoves (to_origin c.args.at.now))
    (sym (not_moved (λ r. moved_rect r (to_origin c.args.at.now)) c.args.rects.now c.loop-i.rects c.loop-i.i no_rect c.loop-i-test.true c.loop-i.invariant))
    (c.requires c.loop-i.i no_rect c.loop-i-test.true)

pub loop-i-preserved : goal.loop-i-preserved
loop-i-preserved c =
    ap (set c.loop-i.rects c.loop-i.i) c.seen_from.ensures
    ∙ map_over_more (λ r. moved_rect r (to_origin c.args.at.now)) c.args.rects.now c.loop-i.rects c.loop-i.i (get_or c.loop-i.rects c.loop-i.i no_rect)
    c.loop-i-test.true c.loop-i.invariant
    (get_or_default c.loop-i.rects c.loop-i.i no_rect (get_or c.loop-i.rects c.loop-i.i no_rect) (omega (arith, c.loop-i-test.true, c.loop-i.auto.rects)))

pub returns : goal.returns
returns c = all_moved (λ r. moved_rect r (to_origin c.args.at.now)) c.args.rects.now c.loop-i.rects c.loop-i.i c.loop-i-test.false c.loop-i.invariant
