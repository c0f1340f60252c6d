use Rattle.std.proofs.Common.{arith, ◌≡◌, ◌+◌, ◌≤◌, length}
use Rattle.std.proofs.lemmas.Grind.{common_steps}
use Rattle.std.proofs.lemmas.Result.{err_from_is_err_and}
use Rattle.desk_io.specs.Sources.{most_bytes}
use Rattle.desk_io.proofs.SourceLemmas.{came_past, came_unkept}
use Rattle.desk_io.proofs.reading.read_by_pieces.Goals as goal

pub returns-then-count-room : goal.returns-then-count-room
returns-then-count-room g c =
    let within = c.loop-bytes.invariant.within in
    let fits = c.in_ok-count.ensures.fits in
    let past : length c.loop-bytes.bytes.items + c.in_ok-count.count ≡ most_bytes + 1 = grind (arith, common_steps) in
    came_past _ _ _ _ _ _ _ _ _ c.loop-bytes.invariant c.in_ok-count.ensures past

pub returns-in_err-extend_from_slice : goal.returns-in_err-extend_from_slice
returns-in_err-extend_from_slice g c =
    let le : length c.loop-bytes.bytes.items + c.in_ok-count.count ≤ most_bytes = grind (arith, common_steps) in
    let p = err_from_is_err_and c.from_residual-in_err-extend_from_slice.result c.from_residual-in_err-extend_from_slice.ensures.1 in
    rw (p.1, p.2) (came_unkept _ _ _ _ _ _ _ _ _ c.loop-bytes.invariant c.in_ok-count.ensures le)
