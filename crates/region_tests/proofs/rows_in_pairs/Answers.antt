use Rattle.std.proofs.Common.{◌≡◌, pos, ◌+ℤ◌, arith, SFits, w32, to_z}
use Rattle.std.proofs.lemmas.Int.{ints, to_z-of_z, to_z_pos}
use Rattle.region_tests.proofs.rows_in_pairs.Goals as goal

pub loop-i-preserved : goal.loop-i-preserved
loop-i-preserved c =
    let h = c.loop-i.invariant in
    let here : to_z w32 c.loop-i.i ≡ pos c.loop-i.i = to_z_pos w32 c.loop-i.i (omega (arith, c.loop-i-test.true, c.requires)) in
    let fits : SFits w32 (to_z w32 c.loop-i.i +ℤ pos 1) = rw here (omega (arith, ints, c.loop-i-test.true, c.requires)) in
    let next = to_z-of_z w32 (to_z w32 c.loop-i.i +ℤ pos 1) fits in
    (_, _, c.in_ok-push_row.ensures h.0 h.1 h.2 (rw here h.3), rw (next, here) (omega (arith, ints)))
