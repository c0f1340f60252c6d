use Rattle.std.proofs.Common.{take, false}
use Rattle.std.specs.List.{flat_map}
use Rattle.desk_io.specs.Sinks.{Puts}
use Rattle.desk_run.specs.Texts.{report_text}
use Rattle.desk_run.proofs.report.put_reports.Given as goal

abbrev pub invariant-loop-report : goal.invariant-loop-report
invariant-loop-report g l =
    Puts (flat_map (report_text l.script.names l.number) (take l.report-index l.reports)) (g.K.Sink.written l.fn.sink) (g.K.Sink.written l.sink)
    (g.K.Sink.faults l.fn.sink) (g.K.Sink.faults l.sink) false
