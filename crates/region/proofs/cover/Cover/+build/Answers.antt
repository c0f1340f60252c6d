use Rattle.std.proofs.Common.{◌≡◌, ◌∙◌, ◌+◌, ◌-◌, ◌/◌, refl, subst, arith}
use Rattle.region.specs.InnerCover.{strip_of}
use Rattle.region.specs.InnerEdges.{IsBuilt}
use Rattle.region.proofs.EdgeLemmas.{new_strip, pair_is_built}
use Rattle.region.proofs.cover.Cover.+build.Goals as goal

pub returns : goal.returns
returns t c =
    let right = subst (λ u. IsBuilt u.to c.in_ok-left.rest.now
    (c.args.count - c.args.count / 2) c.in_ok-right.right c.in_ok-right.rest.now) c.strip.ensures c.in_ok-right.ensures in
    let strip : c.pair-strip.result ≡
    new_strip (strip_of c.in_ok-left.left).from (strip_of c.in_ok-right.right).to
    ((strip_of c.in_ok-left.left).size + (strip_of c.in_ok-right.right).size) = c.pair-strip.ensures ∙ rw (c.strip-2.ensures, c.strip-3.ensures) refl in
    pair_is_built c.args.from.now c.args.edges.now c.args.count
    (c.args.count / 2) c.pair-strip.result _ c.in_ok-left.left c.in_ok-left-2.left.value _ c.in_ok-right.right c.in_ok-right-2.right.value
    c.in_ok-left.rest.now c.in_ok-right.rest.now (omega arith)
    c.in_ok-left.ensures right c.in_ok-left-2.ensures.ok c.in_ok-right-2.ensures.ok strip
