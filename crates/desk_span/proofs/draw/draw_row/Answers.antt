use Rattle.std.proofs.Common.{◌∙◌, ℕ, ◌<◌, ◌^◌, FitsSigned, arith, rules, w32}
use Rattle.std.proofs.lemmas.Int.{to_z-of_z}
use Rattle.std.proofs.lemmas.List.Elements.{All-drop, All-take}
use Rattle.std.proofs.lemmas.Result.{on_ok_weaker}
use Rattle.pix_format.specs.Value.{bits_of, black}
use Rattle.clip_obj.specs.ClipLaws.{lies_within}
use Rattle.desk_span.proofs.RowCopyLemmas.{columns, row_copied, row_fits, taken_long}
use Rattle.desk_span.proofs.draw.draw_row.Goals as goal

pub distance-from-requires : goal.distance-from-requires
distance-from-requires c =
    let edge : FitsSigned w32 c.args.call.now.rect.left = search rules in
    let left : FitsSigned w32 c.args.frame.now.left = search rules in
    rw (to_z-of_z w32 c.args.call.now.rect.left edge, to_z-of_z w32 c.args.frame.now.left left)
    (lies_within c.args.frame.now c.args.call.now.rect (λ p h. ((c.requires.frame p).0 h).0) c.requires.some).left

pub distance-len-requires : goal.distance-len-requires
distance-len-requires c =
    let left : FitsSigned w32 c.args.frame.now.left = search rules in
    let right : FitsSigned w32 c.args.frame.now.right = search rules in
    rw (to_z-of_z w32 c.args.frame.now.left left, to_z-of_z w32 c.args.frame.now.right right)
    (lies_within c.args.frame.now c.args.call.now.rect (λ p h. ((c.requires.frame p).0 h).0) c.requires.some).across

pub slice_bounds-row-end : goal.slice_bounds-row-end
slice_bounds-row-end c =
    let edge : FitsSigned w32 c.args.call.now.rect.left = search rules in
    let left : FitsSigned w32 c.args.frame.now.left = search rules in
    let right : FitsSigned w32 c.args.frame.now.right = search rules in
    (row_fits c.args.target.now c.args.call.now c.args.values.now c.args.frame.now _ _ c.requires.copied c.requires.frame c.requires.some
    (columns _ _ _ edge left c.distance-from.ensures) (columns _ _ _ left right c.distance-len.ensures)).2

pub row-requires-clause-some : goal.row-requires-clause-some
row-requires-clause-some c =
    let edge : FitsSigned w32 c.args.call.now.rect.left = search rules in
    let left : FitsSigned w32 c.args.frame.now.left = search rules in
    let right : FitsSigned w32 c.args.frame.now.right = search rules in
    let from = columns _ _ _ edge left c.distance-from.ensures in
    let len = columns _ _ _ left right c.distance-len.ensures in
    let t = c.args.target.now in
    let call = c.args.call.now in
    let fits = row_fits t call c.args.values.now c.args.frame.now _ _ c.requires.copied c.requires.frame c.requires.some from len in
    let long = taken_long t call c.args.values.now c.args.frame.now _ _ c.requires.copied c.requires.frame c.requires.some from len in
    omega (arith, long, fits.0)

pub row-requires-clause-few : goal.row-requires-clause-few
row-requires-clause-few c =
    let edge : FitsSigned w32 c.args.call.now.rect.left = search rules in
    let left : FitsSigned w32 c.args.frame.now.left = search rules in
    let right : FitsSigned w32 c.args.frame.now.right = search rules in
    let from = columns _ _ _ edge left c.distance-from.ensures in
    let len = columns _ _ _ left right c.distance-len.ensures in
    let t = c.args.target.now in
    let call = c.args.call.now in
    let fits = row_fits t call c.args.values.now c.args.frame.now _ _ c.requires.copied c.requires.frame c.requires.some from len in
    let long = taken_long t call c.args.values.now c.args.frame.now _ _ c.requires.copied c.requires.frame c.requires.some from len in
    omega (arith, long, fits.1, c.requires.width)

pub row-requires-clause-fits : goal.row-requires-clause-fits
row-requires-clause-fits c =
    rw c.pane.ensures (All-take (λ (v : ℕ). v < 2 ^ bits_of c.args.target.now.format) _ _
    (All-drop (λ (v : ℕ). v < 2 ^ bits_of c.args.target.now.format) c.distance-from.result c.args.values.now c.requires.fits))

pub returns-clause-ok : goal.returns-clause-ok
returns-clause-ok c =
    let edge : FitsSigned w32 c.args.call.now.rect.left = search rules in
    let left : FitsSigned w32 c.args.frame.now.left = search rules in
    let right : FitsSigned w32 c.args.frame.now.right = search rules in
    on_ok_weaker c.draw.result (λ drew back. (rw (c.in_ok-row.ensures, c.pane.ensures) at drew)
    ∙ row_copied c.args.target.now c.args.call.now c.args.values.now c.args.frame.now _ _ c.requires.copied c.requires.frame
    c.requires.some (columns _ _ _ edge left c.distance-from.ensures) (columns _ _ _ left right c.distance-len.ensures) c.requires.fits back black
    c.args.clip.now.rects c.requires.places c.requires.within) c.draw.ensures.ok
