use Rattle.std.proofs.Common.{sym, subst}
use Rattle.std.specs.List.{All}
use Rattle.geom_base.specs.Points.{HasPoints}
use Rattle.region.specs.Extents.{AreExtents}
use Rattle.region.proofs.OrderLemmas.{region_in_order}
use Rattle.region.proofs.region.region_of_rects.Goals as goal

pub extents_of-extents-requires : goal.extents_of-extents-requires
extents_of-extents-requires c = subst (All HasPoints) (sym c.deref.ensures.value) (region_in_order c.args.rects.items c.requires.region).points

pub invariant_of-result : goal.invariant_of-result
invariant_of-result c = record {
  region = c.requires.region;
  few = c.requires.few;
  extents = subst (λ l. AreExtents l c.extents_of-extents.result) c.deref.ensures.value c.extents_of-extents.ensures;
}
