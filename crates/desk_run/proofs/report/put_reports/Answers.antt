use Rattle.std.proofs.Common.{[], ap}
use Rattle.std.proofs.lemmas.Result.{err_from_is_err_and}
use Rattle.desk_run.specs.Texts.{report_text}
use Rattle.desk_run.proofs.LineLemmas.{line_failed, line_more}
use Rattle.desk_run.proofs.report.put_reports.Goals as goal

pub returns-in_err-put_report : goal.returns-in_err-put_report
returns-in_err-put_report g c =
    let text = report_text c.args.script.now.names c.args.number in
    rw (err_from_is_err_and c.from_residual.result c.from_residual.ensures.1).1
    (line_failed text [] c.args.reports.now c.loop-report.report-index c.report-item.result c.loop-report-test.true c.loop-report.invariant
    (ap text c.report-item.is) c.in_err-put_report.ensures)

pub loop-report-preserved : goal.loop-report-preserved
loop-report-preserved g c =
    let text = report_text c.args.script.now.names c.args.number in
    line_more text [] c.args.reports.now c.loop-report.report-index c.report-item.result c.loop-report-test.true c.loop-report.invariant
    (ap text c.report-item.is) c.in_ok-put_report.ensures
