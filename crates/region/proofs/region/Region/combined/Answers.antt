use Rattle.std.proofs.Common.{ap, ◌∙◌, ◌||◌, refl, sym, subst, Ok}
use Rattle.region.specs.Order.{IsInOrder}
use Rattle.region.proofs.OrderLemmas.{region_in_order}
use Rattle.region.proofs.UnionLemmas.{answer_alike}
use Rattle.geom_base.specs.Points.{is_in_some}
use Rattle.region.specs.Operation.{holds_after}
use Rattle.region.proofs.KeptLemmas.{built_alike}
use Rattle.region.proofs.ApartLemmas.{apart_intersect, apart_subtract}
use Rattle.region.proofs.CanonicalLaws.{operation_is_canonical}
use Rattle.region.proofs.region.Region.combined.Goals as goal

pub returns-in-Intersect-clause-answer : goal.returns-in-Intersect-clause-answer
returns-in-Intersect-clause-answer c = rw c.in-Intersect.is (apart_intersect c.args.self.now c.args.other.now c.region_of_rects.result
    (c.is_apart.ensures c.if-is_apart.true) (c.region_of_rects.ensures ∙ c.new.ensures.items))

pub returns-in_ok-copied-in-Subtract-clause-answer : goal.returns-in_ok-copied-in-Subtract-clause-answer
returns-in_ok-copied-in-Subtract-clause-answer c =
    let e = c.in_ok-copied-in-Subtract.ensures in
    rw c.in-Subtract.is (apart_subtract c.args.self.now c.args.other.now _ (c.if-is_apart-2.ensures refl) e.region e.few e.same)

pub returns-in-Intersect-clause-canonical : goal.returns-in-Intersect-clause-canonical
returns-in-Intersect-clause-canonical c = λ left right. operation_is_canonical c.args.operation c.args.self.now c.args.other.now (Ok c.region_of_rects.result) left right
    (returns-in-Intersect-clause-answer c)

pub returns-in_ok-copied-in-Subtract-clause-canonical : goal.returns-in_ok-copied-in-Subtract-clause-canonical
returns-in_ok-copied-in-Subtract-clause-canonical c = λ left right. operation_is_canonical c.args.operation c.args.self.now c.args.other.now
    (Ok c.in_ok-copied-in-Subtract.field-0) left right (returns-in_ok-copied-in-Subtract-clause-answer c)

pub united-requires-clause-left : goal.united-requires-clause-left
united-requires-clause-left c = subst IsInOrder (sym c.deref.ensures.value) (region_in_order c.self.inside.rects.items c.self.invariant.region)

pub united-requires-clause-right : goal.united-requires-clause-right
united-requires-clause-right c = subst IsInOrder (sym c.deref-in-Union.ensures.value) (region_in_order c.other.inside.rects.items c.other.invariant.region)

pub finish-requires : goal.finish-requires
finish-requires c =
    let has = c.in_ok-united-in-Union.ensures in
    (has.pushed, has.end, has.rows)

pub returns-in_ok-united-in-Union-clause-answer : goal.returns-in_ok-united-in-Union-clause-answer
returns-in_ok-united-in-Union-clause-answer c =
    let has = c.in_ok-united-in-Union.ensures in
    rw c.in-Union.is (answer_alike _ _ c.finish.result (λ p. has.points p
    ∙ ap (λ l. is_in_some p l || is_in_some p c.deref-in-Union.result.now) (c.deref.ensures.value ∙ c.self.view_is)
    ∙ ap (λ l. is_in_some p c.args.self.now || is_in_some p l) (c.deref-in-Union.ensures.value ∙ c.other.view_is))
    (c.finish.ensures.answer has.pushed has.end has.rows))

pub returns-in_ok-united-in-Union-clause-canonical : goal.returns-in_ok-united-in-Union-clause-canonical
returns-in_ok-united-in-Union-clause-canonical c = λ left right. operation_is_canonical c.args.operation c.args.self.now c.args.other.now _ left right
    (returns-in_ok-united-in-Union-clause-answer c)

pub returns-in_ok-bands-in_default-clause-answer : goal.returns-in_ok-bands-in_default-clause-answer
returns-in_ok-bands-in_default-clause-answer c =
    let op = holds_after c.args.operation in
    c.region_of_list.ensures _ (built_alike 4096 _ _ c.in_ok-bands-in_default.bands
    (λ p. ap (λ l. op (is_in_some p l) (is_in_some p c.deref-in_default-2.result.now)) (c.deref-in_default.ensures.value ∙ c.self.view_is)
    ∙ ap (λ l. op (is_in_some p c.args.self.now) (is_in_some p l)) (c.deref-in_default-2.ensures.value ∙ c.other.view_is)) c.in_ok-bands-in_default.ensures)

pub returns-in_ok-bands-in_default-clause-canonical : goal.returns-in_ok-bands-in_default-clause-canonical
returns-in_ok-bands-in_default-clause-canonical c = λ left right. operation_is_canonical c.args.operation c.args.self.now c.args.other.now _ left right
    (returns-in_ok-bands-in_default-clause-answer c)
