use Rattle.std.proofs.Common.{◌≤◌, ◌∙◌, ap, sym, subst, arith, length}
use Rattle.region.specs.Band.{rects_of}
use Rattle.region.specs.Region.{IsRegion, IsRegionOf}
use Rattle.region.proofs.RegionLemmas.{region_of_canonical, region_same}
use Rattle.region.proofs.CountLemmas.{rects_are_counted}
use Rattle.region.proofs.KeptLemmas.{built_region, built_count}
use Rattle.region.proofs.region.region_of_list.Goals as goal

pub returns-then-list-gt-MOST_RECTS : goal.returns-then-list-gt-MOST_RECTS
returns-then-list-gt-MOST_RECTS c = λ set built. (
  rects_of built.bands,
  region_same _ set built.points _ (region_of_canonical built.bands built.canonical.canonical),
  built.counted.number ∙ sym (rects_are_counted built.bands built.canonical.canonical),
  omega arith,
)

pub region_of_rects-requires-clause-region : goal.region_of_rects-requires-clause-region
region_of_rects-requires-clause-region c =
    let few : c.args.list.count ≤ 4096 = omega arith in
    subst IsRegion (sym c.shrink_to_fit.ensures.items) (built_region 4096 c.requires.0 c.args.list few c.requires.1).canonical

pub region_of_rects-requires-clause-few : goal.region_of_rects-requires-clause-few
region_of_rects-requires-clause-few c =
    let few : c.args.list.count ≤ 4096 = omega arith in
    subst (λ n. n ≤ 4096) (built_count 4096 c.requires.0 c.args.list few c.requires.1 ∙ ap length (sym c.shrink_to_fit.ensures.items)) few

pub returns : goal.returns
returns c = λ set built.
    let few : c.args.list.count ≤ 4096 = omega arith in
    let items = sym (c.region_of_rects.ensures ∙ c.shrink_to_fit.ensures.items) in (
      subst (IsRegionOf set) items (built_region 4096 set c.args.list few built),
      subst (λ n. n ≤ 4096) (built_count 4096 set c.args.list few built ∙ ap length items) few,
    )
