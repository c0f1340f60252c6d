use Rattle.std.proofs.Common.{◌≡◌, ◌+◌, ◌-◌, ◌*◌, ap, arith, drop, take}
use Rattle.std.proofs.lemmas.Result.{err_from_is_err_and}
use Rattle.desk_run.proofs.RowLemmas.{row_failed, row_written}
use Rattle.desk_run.proofs.dump.put_rows.Goals as goal

pub returns-in_err-write_all : goal.returns-in_err-write_all
returns-in_err-write_all g c =
    let w = c.args.size.w in
    let y = c.loop-y.y in
    let width : y * w + w - y * w ≡ w = omega arith in
    rw (err_from_is_err_and c.from_residual.result c.from_residual.ensures.1).1
    (row_failed c.args.digits w c.args.size.h y c.args.values.now c.put_row.ensures (ap (λ k. take k (drop (y * w) c.args.values.now)) width)
    c.loop-y.invariant c.loop-y-test.true c.in_err-write_all.ensures)

pub loop-y-preserved : goal.loop-y-preserved
loop-y-preserved g c =
    let w = c.args.size.w in
    let y = c.loop-y.y in
    let width : y * w + w - y * w ≡ w = omega arith in
    row_written c.args.digits w c.args.size.h y c.args.values.now c.put_row.ensures (ap (λ k. take k (drop (y * w) c.args.values.now)) width)
    c.loop-y.invariant c.in_ok-write_all.ensures
