use Rattle.std.proofs.Common.{sym, subst}
use Rattle.region.specs.Order.{IsInOrder}
use Rattle.region.proofs.OrderLemmas.{region_in_order}
use Rattle.region.proofs.region.Region.meets.Goals as goal

pub rects_meet-requires : goal.rects_meet-requires
rects_meet-requires c = subst IsInOrder (sym c.deref.ensures.value) (region_in_order c.self.inside.rects.items c.self.invariant.region)
