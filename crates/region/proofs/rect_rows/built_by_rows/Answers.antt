use Rattle.std.proofs.Common.{get_or, refl, rules, SFits, w32, to_z, of_z}
use Rattle.std.proofs.lemmas.Int.{to_z-of_z}
use Rattle.geom_base.specs.Points.{no_rect}
use Rattle.region.proofs.RectRowLemmas.{pushed_more}
use Rattle.region.proofs.rect_rows.built_by_rows.Goals as goal

pub loop-rest-preserved : goal.loop-rest-preserved
loop-rest-preserved c =
    let h = c.loop-rest.invariant in
    let rest = c.loop-rest.rest.now in
    let first = get_or rest 0 no_rect in
    let top_fits : SFits w32 first.top = search rules in
    let bottom_fits : SFits w32 first.bottom = search rules in
    pushed_more c.args.rects.now rest c.in_ok-below.below.now first c.read_row.new.spans.items c.deref.result.now c.loop-rest.builder c.push_row.new.self
    (to_z w32 c.loop-rest.end-bits) (to_z w32 (of_z w32 first.top)) (to_z w32 (of_z w32 first.bottom)) h c.in_ok-below.ensures.rects c.deref.ensures.value
    (to_z-of_z w32 first.top top_fits) (to_z-of_z w32 first.bottom bottom_fits) (c.in_ok-push_row.ensures h.pushed (to_z w32 c.loop-rest.end-bits) h.rows
    (rw (to_z-of_z w32 first.top top_fits) (c.if-not-is_below.ensures refl).0))
