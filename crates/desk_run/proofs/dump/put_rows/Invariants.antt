use Rattle.std.proofs.Common.{false}
use Rattle.desk_io.specs.Sinks.{Puts}
use Rattle.desk_run.specs.Texts.{rows_text}
use Rattle.desk_run.proofs.dump.put_rows.Given as goal

abbrev pub invariant-loop-y : goal.invariant-loop-y
invariant-loop-y g l =
    let text = rows_text l.digits l.fn.size.w l.y l.values in
    Puts text (g.K.Sink.written l.fn.sink) (g.K.Sink.written l.sink) (g.K.Sink.faults l.fn.sink) (g.K.Sink.faults l.sink) false
