use Rattle.std.proofs.Common.{subst}
use Rattle.region.specs.Region.{IsRegion}
use Rattle.region.proofs.RegionLemmas.{region_is_apart}
use Rattle.region.proofs.OrderLemmas.{region_in_order}
use Rattle.region.proofs.region.Region.rects.Goals as goal

pub returns-clause-canonical : goal.returns-clause-canonical
returns-clause-canonical c = subst IsRegion c.self.view_is c.self.invariant.region

pub returns-clause-apart : goal.returns-clause-apart
returns-clause-apart c = region_is_apart c.args.self.now (subst IsRegion c.self.view_is c.self.invariant.region)

pub returns-clause-in_order : goal.returns-clause-in_order
returns-clause-in_order c = region_in_order c.args.self.now (subst IsRegion c.self.view_is c.self.invariant.region)
