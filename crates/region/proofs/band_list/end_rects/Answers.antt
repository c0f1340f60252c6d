use Rattle.std.proofs.Common.{◌≡◌, ◌∙◌, ap, rules, w32, to_z, of_z, pos}
use Rattle.std.specs.Prelude.{slice_set, slice_index_or}
use Rattle.std.proofs.lemmas.Int.{to_z-of_z}
use Rattle.geom_base.specs.declared.rect.Rect.{Rect}
use Rattle.region.specs.InnerBandList.{ended_at}
use Rattle.region.proofs.EachLemmas.{each_next}
use Rattle.region.proofs.band_list.end_rects.Goals as goal

pub loop-rect-preserved : goal.loop-rect-preserved
loop-rect-preserved c =
    let place : to_z w32 (of_z w32 c.args.place.now) ≡ c.args.place.now = search (rules, to_z-of_z) in
    let none : Rect = record { left = pos 0; top = pos 0; right = pos 0; bottom = pos 0 } in
    let old : Rect = slice_index_or c.loop-rect.rect-items c.loop-rect.rect-index none in
    ap (λ z. slice_set c.loop-rect.rect-items c.loop-rect.rect-index (record { left = old.left; top = old.top; right = old.right; bottom = z })) place
    ∙ each_next (ended_at c.args.place.now) c.args.rects.now c.loop-rect.rect-items c.loop-rect.rect-index none c.loop-rect-test.true c.loop-rect.invariant
