use Rattle.std.proofs.Common.{sym, subst, get_or, arith, rules, SFits, w32, to_z, of_z}
use Rattle.std.proofs.lemmas.Int.{ints, to_z-of_z}
use Rattle.std.proofs.lemmas.Bool.Decides.{nat_tests}
use Rattle.std.proofs.lemmas.Cmp.{int_cmp_total, int_eq_equiv}
use Rattle.std.proofs.lemmas.List.Filters.{dedup_is}
use Rattle.std.proofs.lemmas.List.Kept.{Contains-dedup, IsStrictlySortedBy-dedup}
use Rattle.std.proofs.lemmas.List.Sorted.{Contains-permutation}
use Rattle.std.specs.List.{Contains}
use Rattle.geom_base.specs.Points.{no_rect}
use Rattle.region.proofs.ScanLemmas.{rising, edges_pushed, edges_kept}
use Rattle.region.proofs.scan.edges_of.Goals as goal

pub loop-rect-preserved : goal.loop-rect-preserved
loop-rect-preserved c =
    let rect = get_or c.args.rects.now c.loop-rect.rect-index no_rect in
    let left_fits : SFits w32 rect.left = search rules in
    let right_fits : SFits w32 rect.right = search rules in
    let first = rw c.in_ok-push.was at c.push.ensures.items in
    let second = rw c.in_ok-push-2.was at c.push-in-loop-rect.ensures.items in
    edges_pushed c.loop-rect.edges.items c.push.new.self.items c.push-in-loop-rect.new.self.items (to_z w32 (of_z w32 rect.left))
    (to_z w32 (of_z w32 rect.right)) c.args.rects.now c.loop-rect.rect-index first second (to_z-of_z w32 rect.left left_fits)
    (to_z-of_z w32 rect.right right_fits) c.loop-rect-test.true c.loop-rect.invariant

pub returns-clause-rising : goal.returns-clause-rising
returns-clause-rising c = rw (dedup_is _ _ _ c.dedup.ensures.filtered)
    (rising _ (IsStrictlySortedBy-dedup int_cmp_total (λ x y. grind (arith, ints, nat_tests)) _ c.sort_unstable.ensures.sorted))

pub returns-clause-edges : goal.returns-clause-edges
returns-clause-edges c =
    let is = dedup_is _ _ _ c.dedup.ensures.filtered in
    edges_kept c.loop-rect.edges.items c.dedup.new.self.items c.args.rects.now c.loop-rect.rect-index
    (λ e h. subst (λ l. Contains l e) (sym is)
    (Contains-dedup int_eq_equiv (λ x y d. grind (arith, ints, nat_tests)) _ e
    (Contains-permutation _ _ e c.sort_unstable.ensures.permutation h))) c.loop-rect-test.false c.loop-rect.invariant
