use Rattle.std.proofs.Common.{◌∙◌, ◌<◌, ap, subst, length}
use Rattle.std.specs.Prelude.{slice_set}
use Rattle.geom_base.specs.Points.{moved_rect, no_rect}
use Rattle.region.proofs.EachLemmas.{each_next}
use Rattle.region.proofs.rect_list.moved_rects.Goals as goal

pub loop-rect-preserved : goal.loop-rect-preserved
loop-rect-preserved c = ap (slice_set c.loop-rect.rect-items c.loop-rect.rect-index) c.shifted.ensures.edges
    ∙ each_next (λ r. moved_rect r c.args.by.now) c.args.rects.now c.loop-rect.rect-items c.loop-rect.rect-index no_rect
    (subst (λ l. c.loop-rect.rect-index < length l) (c.as_mut_slice-rect-items.ensures.value ∙ c.in_ok-moved.ensures.items) c.loop-rect-test.true)
    c.loop-rect.invariant
