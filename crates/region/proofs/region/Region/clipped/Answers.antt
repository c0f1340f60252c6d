use Rattle.std.proofs.Common.{◌≡◌, ◌∙◌, List, sym, subst, ◌&&◌, IsTrue}
use Rattle.geom_base.specs.declared.point.Point.{Point}
use Rattle.geom_base.specs.declared.rect.Rect.{Rect}
use Rattle.geom_base.specs.Points.{is_in, is_in_some}
use Rattle.geom_base.specs.PointLaws.{is_in-IsIn}
use Rattle.region.specs.Region.{IsRegionOf}
use Rattle.region.proofs.BoundsLemmas.{rect_decides}
use Rattle.region.proofs.ExtentLemmas.{all_inside}
use Rattle.region.proofs.OrderLemmas.{region_in_order}
use Rattle.region.proofs.UniqueLemmas.{ok_also}
use Rattle.region.proofs.region.Region.clipped.Goals as goal

pub returns-then-eq-clause-region : goal.returns-then-eq-clause-region
returns-then-eq-clause-region c =
    let rects = c.self.inside.rects.items in
    let same : c.intersect.result ≡ c.self.inside.extents = (rect_decides c.intersect.result c.self.inside.extents).0 (sym c.eq.ensures ∙ c.if-eq.true) in
    let within = λ (p : Point) (t : IsTrue (is_in p c.self.inside.extents)).
    (is_in-IsIn p c.args.bounds.now).1
    ((c.intersect.ensures.common p).0 ((is_in-IsIn p c.intersect.result).0 (subst (λ (r : Rect). IsTrue (is_in p r)) (sym same) t))).1 in
    let own : IsRegionOf (λ p. is_in_some p rects && is_in p c.args.bounds.now) rects = record {
      canonical = c.self.invariant.region;
      points = λ p. all_inside rects c.self.inside.extents c.args.bounds.now c.self.invariant.extents within p;
    } in
    let whole = subst (λ (s : List Rect). IsRegionOf (λ p. is_in_some p s && is_in p c.args.bounds.now) rects) c.self.view_is own in
    ok_also _ _ c.from_slice.result
    (λ r e. subst (IsRegionOf (λ p. is_in_some p c.args.self.now && is_in p c.args.bounds.now)) (sym (e ∙ c.deref.ensures.value)) whole)
    c.from_slice.ensures.items

pub returns-then-eq-clause-in_order : goal.returns-then-eq-clause-in_order
returns-then-eq-clause-in_order c = ok_also _ _ c.from_slice.result (λ r h. region_in_order r.items h.canonical) (returns-then-eq-clause-region c)
