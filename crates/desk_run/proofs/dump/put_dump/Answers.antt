use Rattle.std.proofs.Common.{◌∙◌}
use Rattle.std.proofs.lemmas.Result.{err_from_is_err_and}
use Rattle.desk_io.specs.SinkLaws.{puts_as, puts_on, puts_stopped}
use Rattle.pix_format.specs.Value.{digits_of}
use Rattle.desk_run.specs.Texts.{head_text, rows_text}
use Rattle.desk_run.proofs.dump.put_dump.Goals as goal

pub returns-in_err-write_all : goal.returns-in_err-write_all
returns-in_err-write_all g c =
    let look = c.args.look in
    rw (err_from_is_err_and c.from_residual.result c.from_residual.ensures.1).1
    (puts_stopped (head_text c.args.script.now.names c.args.name look.size look.format)
    (rows_text (digits_of look.format) look.size.w look.size.h c.args.values.now) _ _ _ _
    (puts_as _ _ _ _ _ _ _ c.in_err-write_all.ensures (c.as_slice.ensures.value ∙ c.head_line-head.ensures)))

pub returns : goal.returns
returns g c =
    let look = c.args.look in
    puts_on (head_text c.args.script.now.names c.args.name look.size look.format)
    (rows_text (digits_of look.format) look.size.w look.size.h c.args.values.now) _ _ _ _ _ _ _
    (puts_as _ _ _ _ _ _ _ c.in_ok-write_all.ensures (c.as_slice.ensures.value ∙ c.head_line-head.ensures))
    (rw c.digits-digits.ensures at c.put_rows.ensures)
