use Rattle.std.proofs.Common.{◌≡◌, ◌≤◌, ◌∙◌, List, refl, ap, sym, subst, map, length, Ok}
use Rattle.std.proofs.lemmas.List.{length-map}
use Rattle.geom_base.specs.declared.point.Point.{Point}
use Rattle.geom_base.specs.declared.rect.Rect.{Rect}
use Rattle.geom_base.specs.Points.{is_in_some, moved_rect, RectMoves}
use Rattle.std.specs.List.{All}
use Rattle.region.specs.Region.{IsRegion}
use Rattle.region.specs.Extents.{AreExtents}
use Rattle.region.specs.InnerExtents.{IsKeptRegion}
use Rattle.region.proofs.CanonicalLaws.{moved_is_canonical}
use Rattle.region.proofs.MoveLemmas.{moved_answer}
use Rattle.region.proofs.MovedLaws.{region_moves}
use Rattle.region.proofs.region.Region.offset.Goals as goal

-- the moved list is a region, and as long
moved_region : (by : Point) (rects moved : List Rect) (e : Rect) → IsRegion rects → length rects ≤ 4096 → moved ≡ map (λ rect. moved_rect rect by) rects →
    AreExtents (map (λ rect. moved_rect rect by) rects) e → IsKeptRegion moved e
moved_region by rects moved e h few is extents = subst (λ l. IsKeptRegion l e) (sym is) (record {
  region = (region_moves (λ p. is_in_some p rects) rects by (record { canonical = h; points = λ p. refl })).canonical;
  few = subst (λ n. n ≤ 4096) (sym (length-map rects (λ rect. moved_rect rect by))) few;
  extents = extents;
})

pub moved_extents-requires : goal.moved_extents-requires
moved_extents-requires c = (c.self.inside.rects.items, c.self.invariant.extents, subst (All (RectMoves c.args.by)) (sym c.self.view_is) c.requires)

pub invariant_of-result : goal.invariant_of-result
invariant_of-result c =
    let r = c.self.inside.rects.items in
    moved_region c.args.by r _ c.moved_extents.result c.self.invariant.region c.self.invariant.few
    (c.in_ok-moved_rects.ensures ∙ ap (map (λ rect. moved_rect rect c.args.by)) c.deref.ensures.value)
    (c.moved_extents.ensures r c.self.invariant.extents)

pub returns-clause-answer : goal.returns-clause-answer
returns-clause-answer c =
    let kept = invariant_of-result c in
    moved_answer c.args.by c.args.self.now c.in_ok-moved_rects.field-0.items kept.region kept.few
    (c.in_ok-moved_rects.ensures ∙ ap (map (λ rect. moved_rect rect c.args.by)) (c.deref.ensures.value ∙ c.self.view_is))

pub returns-clause-canonical : goal.returns-clause-canonical
returns-clause-canonical c = λ within. moved_is_canonical c.args.by c.args.self.now (Ok c.in_ok-moved_rects.field-0.items) within (returns-clause-answer c)
