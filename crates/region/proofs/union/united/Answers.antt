use Rattle.std.proofs.Common.{◌≡◌, [], arith, rules, SFits, w32, to_z, of_z}
use Rattle.std.specs.Int.{int_min}
use Rattle.std.proofs.lemmas.Int.{ints, clamps, to_z-of_z}
use Rattle.region.specs.Builder.{first_row}
use Rattle.region.specs.InnerUnion.{first_top}
use Rattle.region.proofs.BuilderLemmas.{rows_above}
use Rattle.region.proofs.UnionLemmas.{in_code, joined_none, joined_more, joined_all, fewer_left}
use Rattle.region.proofs.union.united.Goals as goal

pub loop-top-init : goal.loop-top-init
loop-top-init c =
    let a = c.args.left.now in
    let b = c.args.right.now in
    let row = to_z w32 (of_z w32 c.min-row.result) in
    let row_is : row ≡ int_min (first_top a) (first_top b) =
    grind (arith, to_z-of_z, c.min-row.ensures.value, c.first_top.ensures, c.first_top-2.ensures) in
    let fits : SFits w32 row = search rules in
    joined_none a b row c.reserve.new.self c.requires.left c.requires.right (omega (arith, ints, clamps, row_is)) (omega (arith, ints, clamps, row_is))
    (rows_above [] first_row row c.reserve.new.self (c.reserve.ensures [] first_row c.new-builder.ensures) (omega (arith, ints, fits)))

pub push_either-requires-clause-left : goal.push_either-requires-clause-left
push_either-requires-clause-left c =
    let n = in_code (to_z w32 c.loop-top.row-bits) c.in-Some.top c.in-Some.bottom c.loop-top.a.now c.loop-top.b.now (search rules) (search rules) c.in-Some.ensures in
    (c.turn.ensures (to_z w32 c.loop-top.row-bits) n.first).band

pub push_either-requires-clause-right : goal.push_either-requires-clause-right
push_either-requires-clause-right c =
    let n = in_code (to_z w32 c.loop-top.row-bits) c.in-Some.top c.in-Some.bottom c.loop-top.a.now c.loop-top.b.now (search rules) (search rules) c.in-Some.ensures in
    (c.turn-in-Some.ensures (to_z w32 c.loop-top.row-bits) n.second).band

pub loop-top-preserved : goal.loop-top-preserved
loop-top-preserved c =
    let h = c.loop-top.invariant in
    let row = to_z w32 c.loop-top.row-bits in
    let n = in_code row c.in-Some.top c.in-Some.bottom c.loop-top.a.now c.loop-top.b.now (search rules) (search rules) c.in-Some.ensures in
    joined_more _ c.loop-top.a.now c.loop-top.b.now c.turn.result.0.now c.turn-in-Some.result.0.now c.turn.result.1.now c.turn-in-Some.result.1.now row
    (to_z w32 (of_z w32 c.in-Some.top)) (to_z w32 (of_z w32 c.in-Some.bottom)) c.loop-top.builder c.push_either.new.self h n.first.rows n.first.from
    (c.turn.ensures row n.first) (c.turn-in-Some.ensures row n.second) (c.in_ok-push_either.ensures h.pushed row h.rows n.first.from)

pub loop-top-smaller : goal.loop-top-smaller
loop-top-smaller c =
    let row = to_z w32 c.loop-top.row-bits in
    let n = in_code row c.in-Some.top c.in-Some.bottom c.loop-top.a.now c.loop-top.b.now (search rules) (search rules) c.in-Some.ensures in
    fewer_left row (to_z w32 (of_z w32 c.in-Some.top)) (to_z w32 (of_z w32 c.in-Some.bottom)) c.loop-top.a.now c.loop-top.b.now c.turn.result.0.now
    c.turn-in-Some.result.0.now c.turn.result.1.now c.turn-in-Some.result.1.now n (c.turn.ensures row n.first) (c.turn-in-Some.ensures row n.second)

pub returns : goal.returns
returns c = joined_all _ c.loop-top.a.now c.loop-top.b.now (to_z w32 c.loop-top.row-bits) c.loop-top.builder c.loop-top.invariant c.in_default.ensures.0
    c.in_default.ensures.1
