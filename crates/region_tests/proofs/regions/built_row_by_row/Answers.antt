use Rattle.std.proofs.Common.{pos, [], arith}
use Rattle.std.proofs.lemmas.Int.{ints}
use Rattle.region.specs.Builder.{first_row}
use Rattle.region_tests.proofs.regions.built_row_by_row.Goals as goal

pub push_row-requires-2-clause-below : goal.push_row-requires-2-clause-below
push_row-requires-2-clause-below g c =
    (_, pos 2, c.in_ok-push_row.ensures [] first_row c.new-builder.ensures (omega (arith, ints)), omega (arith, ints))

pub push_row-requires-3-clause-below : goal.push_row-requires-3-clause-below
push_row-requires-3-clause-below g c =
    let first = c.in_ok-push_row.ensures [] first_row c.new-builder.ensures (omega (arith, ints)) in
    (_, pos 4, c.in_ok-push_row-2.ensures _ (pos 2) first (omega (arith, ints)), omega (arith, ints))

pub finish-requires : goal.finish-requires
finish-requires g c =
    let first = c.in_ok-push_row.ensures [] first_row c.new-builder.ensures (omega (arith, ints)) in
    let second = c.in_ok-push_row-2.ensures _ (pos 2) first (omega (arith, ints)) in
    (_, pos 7, c.in_ok-push_row-3.ensures _ (pos 4) second (omega (arith, ints)))
