use Rattle.std.proofs.Common.{◌≡◌, ◌<ℤ◌, ◌≤ℤ◌, arith, get_or, to_z, of_z, w32}
use Rattle.std.specs.Int.{int_min, int_max}
use Rattle.std.proofs.lemmas.Int.{ints, to_z-of_z}
use Rattle.geom_base.specs.Points.{no_rect}
use Rattle.region.proofs.RowLemmas.{cutting_starts, cutting_row, cutting_next, cutting_stops}
use Rattle.region.proofs.two_bands.add_within.Goals as goal

pub loop-rest-init : goal.loop-rest-init
loop-rest-init c = cutting_starts c.args.bounds.now c.args.band.now c.past-rest.result.now c.args.row.now.spans.items c.requires.band c.past-rest.ensures
    c.requires.nothing

pub add-requires : goal.add-requires
add-requires c =
    let from : to_z w32 (of_z w32 c.max.result) ≡ int_max (get_or c.loop-rest.rest.now 0 no_rect).left c.args.bounds.now.left =
    grind (arith, to_z-of_z, c.max.ensures.value) in
    cutting_row _ c.args.bounds.now c.loop-rest.rest.now no_rect c.loop-rest.row.spans.items _ c.in-len1-up.len_at_least from c.loop-rest.invariant

pub loop-rest-preserved : goal.loop-rest-preserved
loop-rest-preserved c =
    let rest = c.loop-rest.rest.now in
    let from : to_z w32 (of_z w32 c.max.result) ≡ int_max (get_or rest 0 no_rect).left c.args.bounds.now.left =
    grind (arith, to_z-of_z, c.max.ensures.value) in
    let to : to_z w32 (of_z w32 c.min.result) ≡ int_min (get_or rest 0 no_rect).right c.args.bounds.now.right =
    grind (arith, to_z-of_z, c.min.ensures.value) in
    let before : (get_or rest 0 no_rect).left <ℤ c.args.bounds.now.right = grind (arith, ints, to_z-of_z, c.if-bounds-rect.false) in
    cutting_next _ c.args.bounds.now rest c.split_at.result.1.now no_rect c.loop-rest.row.spans.items c.add.new.self.spans.items _ _
    c.in-len1-up.len_at_least c.requires.across before c.split_at.ensures.back from to c.loop-rest.invariant c.in_ok-add.ensures.row
    c.in_ok-add.ensures.points

pub returns-then-bounds-rect-clause-points : goal.returns-then-bounds-rect-clause-points
returns-then-bounds-rect-clause-points c =
    let past : c.args.bounds.now.right ≤ℤ (get_or c.loop-rest.rest.now 0 no_rect).left = grind (arith, ints, to_z-of_z, c.if-bounds-rect.true) in
    cutting_stops _ c.args.bounds.now c.loop-rest.rest.now no_rect c.loop-rest.row.spans.items c.in-len1-up.len_at_least past c.loop-rest.invariant
