use Rattle.std.proofs.Common.{subst, arith, ◌<ℤ◌}
use Rattle.std.proofs.lemmas.Int.{ints, to_z-of_z}
use Rattle.geom_base.specs.Points.{no_rect}
use Rattle.region.proofs.SearchLemmas.{later_from}
use Rattle.region.proofs.search.reach.Goals as goal

pub returns-then-of-place-clause-later : goal.returns-then-of-place-clause-later
returns-then-of-place-clause-later c =
    let here : c.args.place.now <ℤ c.of.result = grind (arith, ints, to_z-of_z, c.if-of-place.true) in
    later_from c.args.edge c.args.rects.now c.args.place.now c.loop-count.count no_rect c.requires c.loop-count-test.true
    (subst (λ z. c.args.place.now <ℤ z) c.of.ensures here)
