use Rattle.std.proofs.Common.{refl, sym, ◌∙◌}
use Rattle.std.proofs.lemmas.Bool.{and_parts, false≢true}
use Rattle.std.proofs.lemmas.Result.{on_ok_weaker}
use Rattle.geom_base.specs.PointLaws.{has_point, is_in-IsIn}
use Rattle.geom_base.specs.Points.{is_in_some, moved}
use Rattle.brush_obj.specs.Calls.{rect_of}
use Rattle.desk_span.specs.Desk.{new_of}
use Rattle.desk_span.proofs.DrawLemmas.{drawn_clipped, drawn_none, on_err, row_drawn, seen_drawn}
use Rattle.desk_span.proofs.FrameLemmas.{clip_lies_in, frame_can_move, frame_seen, frame_stands, in_seen_frame, reaches, src_stays, stood_points}
use Rattle.desk_span.proofs.RowCopyLemmas.{copies_row, is_copy}
use Rattle.desk_span.proofs.draw.draw_beside.Goals as goal

pub shifted-call-requires : goal.shifted-call-requires
shifted-call-requires c = rw c.origin_from.ensures c.requires.seen.call

pub shifted-asked-requires-clause-left : goal.shifted-asked-requires-clause-left
shifted-asked-requires-clause-left c =
    (frame_stands c.cut_to-frame.result c.size.result c.args.at c.size.ensures.fits c.cut_to-frame.ensures.inside c.requires.place).left

pub shifted-asked-requires-clause-top : goal.shifted-asked-requires-clause-top
shifted-asked-requires-clause-top c =
    (frame_stands c.cut_to-frame.result c.size.result c.args.at c.size.ensures.fits c.cut_to-frame.ensures.inside c.requires.place).top

pub shifted-asked-requires-clause-right : goal.shifted-asked-requires-clause-right
shifted-asked-requires-clause-right c =
    (frame_stands c.cut_to-frame.result c.size.result c.args.at c.size.ensures.fits c.cut_to-frame.ensures.inside c.requires.place).right

pub shifted-asked-requires-clause-bottom : goal.shifted-asked-requires-clause-bottom
shifted-asked-requires-clause-bottom c =
    (frame_stands c.cut_to-frame.result c.size.result c.args.at c.size.ensures.fits c.cut_to-frame.ensures.inside c.requires.place).bottom

pub build_at-requires : goal.build_at-requires
build_at-requires c = rw c.shifted-asked.ensures.edges
    (frame_can_move c.cut_to-frame.result c.size.result c.args.at c.size.ensures.fits c.cut_to-frame.ensures.inside)

pub returns-then-not-meets-clause-ok : goal.returns-then-not-meets-clause-ok
returns-then-not-meets-clause-ok c s beside =
    let t = c.args.target.now in
    let d = c.args.command.now in
    drawn_none t c.cut_to-frame.result (rect_of d.call) c.args.at (λ p. new_of s d t (moved p c.args.at)) (rw (c.size.ensures.size) at c.size.ensures.places)
    (frame_seen d.call _ _ c.args.at _ _ _ c.origin_from.ensures c.shifted-call.ensures c.rect.ensures
    (rw (c.size.ensures.size) at c.cut_to-frame.ensures.common)) d.clip
    (λ m. false≢true (sym c.if-not-meets.true ∙ (rw (c.region_of-region.ensures, c.shifted-asked.ensures.edges) at c.meets.ensures).1 m))

pub returns-in_err-clip-clause-meets : goal.returns-in_err-clip-clause-meets
returns-in_err-clip-clause-meets c =
    let d = c.args.command.now in
    on_err c.from_residual.result (reaches c.cut_to-frame.result (rect_of d.call) c.args.target.now.size c.args.at
    (frame_seen d.call _ _ c.args.at _ _ _ c.origin_from.ensures c.shifted-call.ensures c.rect.ensures
    (rw (c.size.ensures.size) at c.cut_to-frame.ensures.common)) d refl
    ((rw (c.region_of-region.ensures, c.shifted-asked.ensures.edges) at c.meets.ensures).0 c.if-not-meets.false))

pub draw_row-requires-clause-copied : goal.draw_row-requires-clause-copied
draw_row-requires-clause-copied c =
    rw c.items.ensures (copies_row c.args.command.now.call c.origin_from.result _ _ (rw c.in-Row.is at c.requires.can.row)
    (sym c.shifted-call.ensures ∙ c.in-Copy.is))

pub draw_row-requires-clause-inside : goal.draw_row-requires-clause-inside
draw_row-requires-clause-inside c =
    clip_lies_in c.cut_to-frame.result c.shifted-asked.result c.args.at c.args.target.now.size c.in_ok-clip.clip.rects c.shifted-asked.ensures.edges
    (rw c.size.ensures.size at c.cut_to-frame.ensures.inside) c.in_ok-clip.ensures.inside

pub draw_row-requires-clause-some : goal.draw_row-requires-clause-some
draw_row-requires-clause-some c =
    let m = c.meets.ensures.0 c.if-not-meets.false in
    stood_points c.cut_to-frame.result c.shifted-asked.result c.args.at c.shifted-asked.ensures.edges
    (has_point ((is_in-IsIn m.point c.shifted-asked.result).0 m.inside))

pub draw_row-requires-clause-within : goal.draw_row-requires-clause-within
draw_row-requires-clause-within c p h =
    in_seen_frame c.cut_to-frame.result c.shifted-asked.result c.args.at c.shifted-asked.ensures.edges p
    ((and_parts _ _ (sym (c.in_ok-clip.ensures.clip.rects.points p) ∙ h)).1)

pub returns-in-Row-clause-ok : goal.returns-in-Row-clause-ok
returns-in-Row-clause-ok c =
    let t = c.args.target.now in
    let d = c.args.command.now in
    on_ok_weaker c.draw_row.result (λ put s beside. rw (← c.region_of-region.ensures)
    (drawn_clipped t c.cut_to-frame.result (rect_of d.call) c.args.at (λ p. new_of s d t (moved p c.args.at))
    (rw (c.size.ensures.size) at c.size.ensures.places)
    (frame_seen d.call _ _ c.args.at _ _ _ c.origin_from.ensures c.shifted-call.ensures c.rect.ensures
    (rw (c.size.ensures.size) at c.cut_to-frame.ensures.common)) c.draw_row.new.target c.region_of-region.result c.in_ok-clip.clip.rects
    (rw c.shifted-asked.ensures.edges at c.in_ok-clip.ensures.clip.rects.points)
    (seen_drawn c.calls_move.ensures.moved s d t _ c.args.at c.shifted-call.result (λ p. is_in_some p c.in_ok-clip.clip.rects)
    (rw c.origin_from.ensures at c.shifted-call.ensures)
    (row_drawn s d t _ c.shifted-call.result _ _ (λ p. is_in_some p c.in_ok-clip.clip.rects) c.in-Row.is c.in-Copy.is (put d.back)))))
    (rw c.items.ensures at c.draw_row.ensures.ok)

pub returns-in-Row-clause-meets : goal.returns-in-Row-clause-meets
returns-in-Row-clause-meets c =
    let d = c.args.command.now in
    on_err c.draw_row.result (reaches c.cut_to-frame.result (rect_of d.call) c.args.target.now.size c.args.at
    (frame_seen d.call _ _ c.args.at _ _ _ c.origin_from.ensures c.shifted-call.ensures c.rect.ensures
    (rw (c.size.ensures.size) at c.cut_to-frame.ensures.common)) d refl
    ((rw (c.region_of-region.ensures, c.shifted-asked.ensures.edges) at c.meets.ensures).0 c.if-not-meets.false))

pub draw_call-requires-clause-moves : goal.draw_call-requires-clause-moves
draw_call-requires-clause-moves c = rw c.shifted-call.ensures (src_stays c.args.command.now.call c.origin_from.result _ c.requires.seen.source)

pub draw_call-requires-clause-inside : goal.draw_call-requires-clause-inside
draw_call-requires-clause-inside c =
    clip_lies_in c.cut_to-frame.result c.shifted-asked.result c.args.at c.args.target.now.size c.in_ok-clip.clip.rects c.shifted-asked.ensures.edges
    (rw c.size.ensures.size at c.cut_to-frame.ensures.inside) c.in_ok-clip.ensures.inside

pub returns-clause-ok : goal.returns-clause-ok
returns-clause-ok c =
    let t = c.args.target.now in
    let d = c.args.command.now in
    on_ok_weaker c.draw_call.result (λ drew s beside. rw (← c.region_of-region.ensures)
    (drawn_clipped t c.cut_to-frame.result (rect_of d.call) c.args.at (λ p. new_of s d t (moved p c.args.at))
    (rw (c.size.ensures.size) at c.size.ensures.places)
    (frame_seen d.call _ _ c.args.at _ _ _ c.origin_from.ensures c.shifted-call.ensures c.rect.ensures
    (rw (c.size.ensures.size) at c.cut_to-frame.ensures.common)) c.draw_call.new.target c.region_of-region.result c.in_ok-clip.clip.rects
    (rw c.shifted-asked.ensures.edges at c.in_ok-clip.ensures.clip.rects.points)
    (seen_drawn c.calls_move.ensures.moved s d t _ c.args.at c.shifted-call.result (λ p. is_in_some p c.in_ok-clip.clip.rects)
    (rw c.origin_from.ensures at c.shifted-call.ensures) (drew s beside)))) c.draw_call.ensures.ok

pub returns-clause-meets : goal.returns-clause-meets
returns-clause-meets c =
    let d = c.args.command.now in
    on_err c.draw_call.result (reaches c.cut_to-frame.result (rect_of d.call) c.args.target.now.size c.args.at
    (frame_seen d.call _ _ c.args.at _ _ _ c.origin_from.ensures c.shifted-call.ensures c.rect.ensures
    (rw (c.size.ensures.size) at c.cut_to-frame.ensures.common)) d refl
    ((rw (c.region_of-region.ensures, c.shifted-asked.ensures.edges) at c.meets.ensures).0 c.if-not-meets.false))

pub unreachable-requires : goal.unreachable-requires
unreachable-requires c =
    is_copy c.args.command.now.call c.shifted-call.result c.origin_from.result c.in-Row.values (rw c.in-Row.is at c.requires.can.row) c.shifted-call.ensures
    c.in_default-call.not-Copy
