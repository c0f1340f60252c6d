use Rattle.std.proofs.Common.{refl, rules}
use Rattle.region.proofs.BoundsLemmas.{rect_in_order, rect_listed}
use Rattle.region.proofs.bounds.rects_of_bounds.Goals as goal

pub returns-clause-region : goal.returns-clause-region
returns-clause-region c = rect_listed c.args.bounds.now c.push.new.self.items (c.if-not-has_points.ensures.points.0 refl) (search rules)

pub returns-clause-in_order : goal.returns-clause-in_order
returns-clause-in_order c = rect_in_order c.args.bounds.now c.push.new.self.items (c.if-not-has_points.ensures.points.0 refl) (search rules)
