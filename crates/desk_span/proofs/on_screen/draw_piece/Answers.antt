use Rattle.std.proofs.Common.{ap, refl, subst}
use Rattle.script_orders.specs.Places.{MayStandAt}
use Rattle.desk_span.specs.InnerBeside.{faces_of}
use Rattle.desk_span.specs.InnerRouted.{face_among, kept_with}
use Rattle.desk_span.specs.Kept.{ScreenKept}
use Rattle.desk_span.proofs.ScreenLemmas.{can_with, piece_can, piece_drew, routed_with}
use Rattle.desk_span.proofs.on_screen.draw_piece.Goals as goal

pub hand_over-requires-clause-can : goal.hand_over-requires-clause-can
hand_over-requires-clause-can g c =
    let w = c.args.screen.now in
    let d = c.args.command.now in
    let k = kept_with w c.args.bitmaps.now c.args.brushes.now in
    let place = ap (λ (s : ScreenKept). s.place) c.screen.view_is in
    let at = ap (λ (s : ScreenKept). s.at) c.screen.view_is in
    let table = ap (λ (s : ScreenKept). s.table) c.screen.view_is in
    rw (place, table) (can_with c.args.piece.now.call c.lent_bitmap-source.result c.mask_bitmap.result c.or_same.result.now w.table
    (face_among (faces_of c.args.brushes.now) d.brush) c.lent_bitmap-source.ensures c.mask_bitmap.ensures
    (piece_can k _ d c.args.piece.now c.requires.piece c.requires.target c.requires.can
    (subst (λ (s : ScreenKept). MayStandAt s.at) c.screen.view_is c.screen.invariant.2) c.requires.serves c.in_ok-xlate.xlate c.or_same.result.now
    (rw c.lent_bitmap-source.ensures at c.in_ok-xlate.ensures) c.or_same.ensures c.region_of-region.result c.region_of-region.ensures
    c.in_ok-clip.clip.rects (rw at at c.in_ok-clip.ensures.inside) (rw at at c.in_ok-clip.ensures.clip.rects.points)
    (face_among (faces_of c.args.brushes.now) d.brush) refl))

pub returns-clause-ok : goal.returns-clause-ok
returns-clause-ok g c =
    let w = c.args.screen.now in
    let d = c.args.command.now in
    let k = kept_with w c.args.bitmaps.now c.args.brushes.now in
    let place = ap (λ (s : ScreenKept). s.place) c.screen.view_is in
    let at = ap (λ (s : ScreenKept). s.at) c.screen.view_is in
    let table = ap (λ (s : ScreenKept). s.table) c.screen.view_is in
    piece_drew k _ d c.args.piece.now c.requires.piece c.requires.target c.requires.can
    (subst (λ (s : ScreenKept). MayStandAt s.at) c.screen.view_is c.screen.invariant.2) c.requires.serves c.in_ok-xlate.xlate c.or_same.result.now
    (rw c.lent_bitmap-source.ensures at c.in_ok-xlate.ensures) c.or_same.ensures c.region_of-region.result c.region_of-region.ensures
    c.in_ok-clip.clip.rects (rw at at c.in_ok-clip.ensures.inside) (rw at at c.in_ok-clip.ensures.clip.rects.points)
    (face_among (faces_of c.args.brushes.now) d.brush) refl c.calls_move.ensures.lent c.calls_move.ensures.moved _ _
    (routed_with c.args.piece.now.call c.lent_bitmap-source.result c.mask_bitmap.result c.or_same.result.now w.table
    (face_among (faces_of c.args.brushes.now) d.brush) c.lent_bitmap-source.ensures c.mask_bitmap.ensures (rw (place, table) at c.hand_over.ensures.routed))
