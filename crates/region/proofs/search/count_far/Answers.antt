use Rattle.std.proofs.Common.{rules, of_calls, int_le, sym, subst}
use Rattle.std.proofs.lemmas.Fn.{always_returns_same}
use Rattle.region.specs.InnerSearch.{edge_of, AreSorted}
use Rattle.region.proofs.SearchLemmas.{sorted_is_parted, sorted_take, found_before, found_later}
use Rattle.region.proofs.search.count_far.Goals as goal

pub returns-clause-before : goal.returns-clause-before
returns-clause-before c =
    let near = c.split_at.result.0.now in
    let sorted = subst (AreSorted c.args.edge) (sym c.split_at.ensures.front) (sorted_take c.args.edge c.reach.result c.args.rects.now c.requires) in
    found_before c.args.edge c.args.rects.now near c.args.place.now c.reach.result c.partition_point.result c.split_at.ensures.front c.reach.ensures.within
    c.partition_point.ensures.bound
    (c.partition_point.ensures.partitioned (λ r. int_le (edge_of c.args.edge r) c.args.place.now)
    (always_returns_same _ _ _ (λ a r f k. search (rules, of_calls))) (sorted_is_parted c.args.edge near c.args.place.now sorted))

pub returns-clause-later : goal.returns-clause-later
returns-clause-later c =
    let near = c.split_at.result.0.now in
    let sorted = subst (AreSorted c.args.edge) (sym c.split_at.ensures.front) (sorted_take c.args.edge c.reach.result c.args.rects.now c.requires) in
    found_later c.args.edge c.args.rects.now near c.args.place.now c.reach.result c.partition_point.result c.requires c.split_at.ensures.front
    c.reach.ensures.within c.reach.ensures.later c.partition_point.ensures.bound
    (c.partition_point.ensures.partitioned (λ r. int_le (edge_of c.args.edge r) c.args.place.now)
    (always_returns_same _ _ _ (λ a r f k. search (rules, of_calls))) (sorted_is_parted c.args.edge near c.args.place.now sorted))
