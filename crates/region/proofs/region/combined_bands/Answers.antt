use Rattle.std.proofs.Common.{◌∙◌, ap}
use Rattle.geom_base.specs.Points.{is_in_some}
use Rattle.region.specs.Operation.{holds_after}
use Rattle.region.specs.Canonical.{point_from}
use Rattle.region.specs.InnerSweep.{both}
use Rattle.region.proofs.OrderLemmas.{region_in_order}
use Rattle.region.proofs.KeptLemmas.{built_by_steps}
use Rattle.region.proofs.region.combined_bands.Goals as goal

pub new-requires : goal.new-requires
new-requires c = region_in_order c.args.a.now c.requires.left

pub new-requires-2 : goal.new-requires-2
new-requires-2 c = region_in_order c.args.b.now c.requires.right

pub returns : goal.returns
returns c =
    let s = c.in_ok-sweep.ensures.steps in
    let op = holds_after c.args.operation in
    built_by_steps c.sweep.new.out.list c.args.most
    (both op (λ y x. is_in_some (point_from x y) c.new.result.rects.now) (λ y x. is_in_some (point_from x y) c.new-2.result.rects.now)) _ s.0 s.1
    (c.in_ok-sweep.ensures.limit ∙ c.new-out.ensures.most) s.2
    (λ p. ap (λ l. op (is_in_some p l) (is_in_some p c.new-2.result.rects.now)) c.new.ensures.rects
    ∙ ap (λ l. op (is_in_some p c.args.a.now) (is_in_some p l)) c.new-2.ensures.rects)
