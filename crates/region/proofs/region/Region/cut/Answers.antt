use Rattle.std.proofs.Common.{◌∙◌, ◌&&◌, ap, rules, arith, Fits, w64}
use Rattle.geom_base.specs.Points.{is_in_some}
use Rattle.region.proofs.OrderLemmas.{region_in_order}
use Rattle.region.proofs.RegionLemmas.{region_same}
use Rattle.region.proofs.KeptLemmas.{built_region}
use Rattle.region.proofs.region.Region.cut.Goals as goal

pub returns-clause-region : goal.returns-clause-region
returns-clause-region c =
    let fits : Fits w64 c.in_ok-bands.bands.count = search rules in
    let whole = built_region 18446744073709551615 _ c.in_ok-bands.bands (omega (arith, fits)) c.in_ok-bands.ensures in
    region_same _ _ (λ p. ap (λ l. is_in_some p l && is_in_some p c.deref-2.result.now) (c.deref.ensures.value ∙ c.self.view_is)
    ∙ ap (λ l. is_in_some p c.args.self.now && is_in_some p l) c.deref-2.ensures.value
    ∙ ap (λ b. is_in_some p c.args.self.now && b) (c.in_ok-frame.ensures.region.points p)) _ whole

pub returns-clause-in_order : goal.returns-clause-in_order
returns-clause-in_order c = region_in_order c.in_ok-bands.bands.rects.items (returns-clause-region c).canonical
