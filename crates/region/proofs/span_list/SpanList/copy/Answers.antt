use Rattle.std.proofs.Common.{◌≡◌, ◌∙◌, ◌++◌, ◌∷◌, [], ap, get_or, map, pos, rules, arith, w32, to_z, of_z, SFits}
use Rattle.std.proofs.lemmas.Int.{to_z-of_z}
use Rattle.std.proofs.lemmas.List.{take_all}
use Rattle.geom_base.specs.declared.rect.Rect.{Rect}
use Rattle.region.specs.InnerSpanList.{span_of}
use Rattle.region.proofs.SpanListLemmas.{band_is_columns, spans_next}
use Rattle.region.proofs.span_list.SpanList.copy.Goals as goal

pub loop-rect-preserved : goal.loop-rect-preserved
loop-rect-preserved c =
    let pushed = rw c.in_ok-push.was at c.push.ensures.items in
    let none : Rect = record { left = pos 0; top = pos 0; right = pos 0; bottom = pos 0 } in
    let r : Rect = get_or c.args.band.now c.loop-rect.rect-index none in
    let fits_left : SFits w32 r.left = search rules in
    let fits_right : SFits w32 r.right = search rules in
    let left : to_z w32 (of_z w32 r.left) ≡ r.left = search (rules, to_z-of_z) in
    let right : to_z w32 (of_z w32 r.right) ≡ r.right = search (rules, to_z-of_z) in
    spans_next c.args.band.now c.loop-rect.self.spans.items c.push.new.self.items c.loop-rect.rect-index none c.loop-rect-test.true c.loop-rect.invariant.0
    (pushed ∙ ap (λ z. c.loop-rect.self.spans.items ++ record { left = z; right = to_z w32 (of_z w32 r.right) } ∷ []) left
    ∙ ap (λ z. c.loop-rect.self.spans.items ++ record { left = r.left; right = z } ∷ []) right) c.loop-rect.invariant.1 fits_left fits_right

pub returns-clause-columns : goal.returns-clause-columns
returns-clause-columns c = (band_is_columns c.args.band.now c.loop-rect.self.spans.items c.requires.band c.loop-rect.invariant.1
    (c.loop-rect.invariant.0 ∙ ap (map span_of) (take_all c.loop-rect.rect-index c.args.band.now (omega arith)))).0

pub returns-clause-points : goal.returns-clause-points
returns-clause-points c = (band_is_columns c.args.band.now c.loop-rect.self.spans.items c.requires.band c.loop-rect.invariant.1
    (c.loop-rect.invariant.0 ∙ ap (map span_of) (take_all c.loop-rect.rect-index c.args.band.now (omega arith)))).1
