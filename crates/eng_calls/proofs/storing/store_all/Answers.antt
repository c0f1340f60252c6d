use Rattle.std.proofs.Common.{◌∙◌, ◌*◌, length, refl, sym}
use Rattle.copy_port.specs.Laws.{draws_nothing, keeps_all}
use Rattle.eng_calls.specs.InnerBands.{bands_of}
use Rattle.eng_calls.proofs.ManagedLemmas.{draws_roomy, not_wanting, on_refusal, on_success, roomy_left, wanting}
use Rattle.eng_calls.proofs.storing.store_all.Goals as goal

pub returns-then-is_err : goal.returns-then-is_err
returns-then-is_err g c =
    rw (on_refusal c.reserve_bands.result (sym c.is_err.ensures.value ∙ c.if-is_err.true) c.reserve_bands.ensures.err)
    (draws_nothing _ _ _ _ _ _ _ _ not_wanting (wanting _ _ (keeps_all _)))

pub store-answer-requires-clause-spare : goal.store-answer-requires-clause-spare
store-answer-requires-clause-spare g c =
    rw c.max_cuts.ensures.value at
    (on_success c.reserve_bands.result (sym c.is_err.ensures.value ∙ c.if-is_err.false) c.reserve_bands.ensures.enough)

pub returns : goal.returns
returns g c =
    let cuts = (g.P.Pictured.state c.args.port.now).rest.cuts in
    let rects = c.args.rects.now in
    draws_roomy _ _ _ (cuts * length rects) (cuts * bands_of (length c.args.room.now) rects) _ _ c.args.drawn.now c.reserve_bands.new.drawn
    c.store-answer.new.drawn c.give_back.new.self _ c.reserve_bands.ensures.rects c.reserve_bands.ensures.kept
    (roomy_left c.args.drawn.now.spare c.reserve_bands.new.drawn.spare c.max_cuts.result cuts (length c.args.room.now) (length c.args.room.now) rects
    c.max_cuts.ensures.value refl
    (on_success c.reserve_bands.result (sym c.is_err.ensures.value ∙ c.if-is_err.false) c.reserve_bands.ensures.left))
    c.give_back.ensures.rects (rw c.spare-spare.ensures at c.give_back.ensures.kept) c.store-answer.ensures
