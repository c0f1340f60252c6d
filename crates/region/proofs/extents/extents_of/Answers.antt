use Rattle.std.proofs.Common.{◌+◌, drop}
use Rattle.region.proofs.ExtentLemmas.{next_is_around, around_is_extents, from_here, none_left}
use Rattle.region.proofs.extents.extents_of.Goals as goal

pub loop-rect-preserved : goal.loop-rect-preserved
loop-rect-preserved c =
    let e = c.around-extents.ensures in
    let i = c.loop-rect.rect-index in
    next_is_around c.args.rects.now (drop i c.args.rects.now) (drop (i + 1) c.args.rects.now) c.loop-rect.extents _ c.around-extents.result
    (from_here c.args.rects.now i c.loop-rect-test.true) e.left e.top e.right e.bottom
    c.loop-rect.invariant

pub returns-after-loop-rect : goal.returns-after-loop-rect
returns-after-loop-rect c = around_is_extents c.args.rects.now (drop c.loop-rect.rect-index c.args.rects.now) c.loop-rect.extents
    (none_left c.args.rects.now c.loop-rect.rect-index c.loop-rect-test.false) c.requires c.loop-rect.invariant
