use Rattle.std.proofs.Common.{refl, sym, subst, map}
use Rattle.std.proofs.lemmas.Bool.{false≢true}
use Rattle.geom_base.specs.declared.rect.Rect.{Rect}
use Rattle.geom_base.specs.Points.{moved_rect}
use Rattle.region.specs.Extents.{AreExtents}
use Rattle.region.proofs.ExtentLemmas.{extents_can_move, extents_move, no_extents_move}
use Rattle.region.proofs.extents.moved_extents.Goals as goal

pub returns-then-not-has_points : goal.returns-then-not-has_points
returns-then-not-has_points c = λ rects h. no_extents_move c.args.by rects c.args.extents (λ points. false≢true (c.if-not-has_points.ensures.points.1 points)) h

pub shifted-requires : goal.shifted-requires
shifted-requires c =
    let r = c.requires in
    let can = extents_can_move c.args.by r.0 c.args.extents (c.if-not-has_points.ensures.points.0 refl) r.1 r.2 in
    record { left = can.left; top = can.top; right = can.right; bottom = can.bottom }

pub returns : goal.returns
returns c = λ rects h. subst (λ (e : Rect). AreExtents (map (λ r. moved_rect r c.args.by) rects) e) (sym c.shifted.ensures.edges)
    (extents_move c.args.by rects c.args.extents h)
