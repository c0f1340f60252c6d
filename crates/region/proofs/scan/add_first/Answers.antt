use Rattle.std.proofs.Common.{◌≡◌, ◌∙◌, ◌∷◌, get_or, ap, sym, arith}
use Rattle.std.proofs.lemmas.Int.{ints}
use Rattle.geom_base.specs.Points.{no_rect}
use Rattle.region.proofs.ScanLemmas.{begun_none, begun_more, first_of, later_first, first_solid}
use Rattle.region.proofs.scan.add_first.Goals as goal

pub loop-rest-init : goal.loop-rest-init
loop-rest-init c = begun_none c.args.row.now c.args.place.now c.args.rects.now c.args.cover.now c.requires.cover c.requires.ready c.requires.below

pub add-requires-clause-below : goal.add-requires-clause-below
add-requires-clause-below c =
    let solid = first_solid c.loop-rest.cover c.loop-rest.rest.now no_rect (omega (arith, c.in-len1-up.len_at_least)) c.loop-rest.invariant.begun.ready in
    omega (arith, ints, solid.top, solid.points.down)

pub loop-rest-preserved : goal.loop-rest-preserved
loop-rest-preserved c =
    let first = get_or c.loop-rest.rest.now 0 no_rect in
    let split : c.loop-rest.rest.now ≡ first ∷ c.split_at.result.1.now = first_of c.loop-rest.rest.now no_rect (omega (arith, c.in-len1-up.len_at_least))
    ∙ ap (λ u. first ∷ u) (sym c.split_at.ensures.back) in
    begun_more c.args.row.now c.args.place.now c.args.rects.now c.loop-rest.rest.now c.split_at.result.1.now c.args.cover.now c.loop-rest.cover c.add.new.self
    first c.loop-rest.invariant split (omega (arith, ints, c.if-place-first.false)) c.add.ensures

pub returns-then-place-first : goal.returns-then-place-first
returns-then-place-first c = record {
  adding = c.loop-rest.invariant;
  later = later_first c.args.place.now c.loop-rest.rest.now no_rect (omega (arith, c.in-len1-up.len_at_least)) (omega (arith, ints, c.if-place-first.true));
}
