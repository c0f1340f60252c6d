use Rattle.std.proofs.Common.{◌∙◌, length}
use Rattle.std.proofs.lemmas.Result.{err_from_is_err_and}
use Rattle.std.specs.List.{flat_map}
use Rattle.desk_io.specs.SinkLaws.{puts_as, puts_stopped}
use Rattle.desk_run.specs.Texts.{drawn_text, report_head_text}
use Rattle.desk_run.proofs.LineLemmas.{line_failed, line_more}
use Rattle.desk_run.proofs.report.put_report.Goals as goal

pub returns-in_err-write_all : goal.returns-in_err-write_all
returns-in_err-write_all g c =
    let r = c.args.report.now in
    let names = c.args.script.now.names in
    rw (err_from_is_err_and c.from_residual.result c.from_residual.ensures.1).1
    (puts_stopped (report_head_text names c.args.number r.cause r.target (length r.rects)) (flat_map (drawn_text names r.target) r.rects) _ _ _ _
    (puts_as _ _ _ _ _ _ _ c.in_err-write_all.ensures (c.as_slice.ensures.value ∙ c.report_head_line-head.ensures)))

pub returns-in_err-write_all-2 : goal.returns-in_err-write_all-2
returns-in_err-write_all-2 g c =
    let r = c.args.report.now in
    let names = c.args.script.now.names in
    rw (err_from_is_err_and c.from_residual-in_err-write_all-2.result c.from_residual-in_err-write_all-2.ensures.1).1
    (line_failed (drawn_text names r.target) (report_head_text names c.args.number r.cause r.target (length r.rects)) r.rects c.loop-rect.rect-index _
    (rw c.rects-rect-items.ensures at c.loop-rect-test.true) c.loop-rect.invariant (c.as_slice-in-loop-rect.ensures.value
    ∙ (rw (c.target.ensures, c.rects-rect-items.ensures) at c.drawn_line-line.ensures)) c.in_err-write_all-2.ensures)

pub loop-rect-preserved : goal.loop-rect-preserved
loop-rect-preserved g c =
    let r = c.args.report.now in
    let names = c.args.script.now.names in
    line_more (drawn_text names r.target) (report_head_text names c.args.number r.cause r.target (length r.rects)) r.rects c.loop-rect.rect-index _
    (rw c.rects-rect-items.ensures at c.loop-rect-test.true) c.loop-rect.invariant (c.as_slice-in-loop-rect.ensures.value
    ∙ (rw (c.target.ensures, c.rects-rect-items.ensures) at c.drawn_line-line.ensures)) c.in_ok-write_all-2.ensures
