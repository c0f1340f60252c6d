use Rattle.std.proofs.Common.{take, ◌++◌, length, false}
use Rattle.std.specs.List.{flat_map}
use Rattle.desk_io.specs.Sinks.{Puts}
use Rattle.desk_run.specs.Texts.{drawn_text, report_head_text}
use Rattle.desk_run.proofs.report.put_report.Given as goal

abbrev pub invariant-loop-rect : goal.invariant-loop-rect
invariant-loop-rect g l =
    let names = l.script.names in
    let head = report_head_text names l.number l.report.cause l.report.target (length l.report.rects) in
    Puts (head ++ flat_map (drawn_text names l.report.target) (take l.rect-index l.report.rects)) (g.K.Sink.written l.fn.sink) (g.K.Sink.written l.sink)
    (g.K.Sink.faults l.fn.sink) (g.K.Sink.faults l.sink) false
