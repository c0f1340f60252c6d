use Rattle.std.proofs.Common.{subst, arith, ◌<ℤ◌}
use Rattle.std.proofs.lemmas.Int.{ints, to_z-of_z}
use Rattle.geom_base.specs.Points.{no_rect}
use Rattle.region.proofs.SearchLemmas.{later_from}
use Rattle.region.proofs.search.count_until.Goals as goal

pub returns-in-len1-up-clause-later : goal.returns-in-len1-up-clause-later
returns-in-len1-up-clause-later c =
    let here : c.args.place.now <ℤ c.of.result = grind (arith, ints, to_z-of_z, c.if-of-place.true) in
    later_from c.args.edge c.args.rects.now c.args.place.now 0 no_rect c.requires c.in-len1-up.len_at_least
    (subst (λ z. c.args.place.now <ℤ z) c.of.ensures here)

pub returns-in-len2-up-clause-later : goal.returns-in-len2-up-clause-later
returns-in-len2-up-clause-later c =
    let here : c.args.place.now <ℤ c.of-2.result = grind (arith, ints, to_z-of_z, c.if-of-place-2.true) in
    later_from c.args.edge c.args.rects.now c.args.place.now 1 no_rect c.requires c.in-len2-up.len_at_least
    (subst (λ z. c.args.place.now <ℤ z) c.of-2.ensures here)
