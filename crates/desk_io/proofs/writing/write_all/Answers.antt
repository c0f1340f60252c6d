use Rattle.std.proofs.Common.{arith}
use Rattle.std.proofs.lemmas.Grind.{common_steps}
use Rattle.std.proofs.lemmas.Result.{err_from_is_err_and}
use Rattle.desk_io.proofs.SinkLemmas.{put_more, put_stop}
use Rattle.desk_io.proofs.writing.write_all.Goals as goal

pub returns-in_err-done : goal.returns-in_err-done
returns-in_err-done g c =
    let p = err_from_is_err_and c.from_residual.result c.from_residual.ensures.1 in
    rw p.1 (put_stop c.args.bytes.now _ _ _ _ _ _ c.loop-done.done c.in_err-done.field-0.0 c.loop-done.invariant c.in_err-done.ensures)

pub loop-done-preserved : goal.loop-done-preserved
loop-done-preserved g c = put_more c.args.bytes.now _ _ _ _ _ _ c.loop-done.done c.in_ok-done.field-0 c.loop-done.invariant
    (grind (arith, common_steps, c.in_ok-done.ensures.some)) c.in_ok-done.ensures
