use Rattle.std.proofs.Common.{sym}
use Rattle.desk_io.specs.SinkLaws.{puts_nothing}
use Rattle.script_orders.specs.declared.script_command.ScriptCommand.TheVariants as asked
use Rattle.desk_run.proofs.ReadLemmas.{came_reported}
use Rattle.desk_run.proofs.run.draw.Goals as goal

pub returns-in-All-clause-came : goal.returns-in-All-clause-came
returns-in-All-clause-came g c = record {
  carries = rw c.in-All.ensures.outcome at c.in-All.ensures.carries;
  wrote = puts_nothing _ _;
}

pub returns-in-Parted-clause-came : goal.returns-in-Parted-clause-came
returns-in-Parted-clause-came g c =
    let (t, rest, told) = c.in-Parted.ensures.outcome in
    came_reported c.args.run.now.script.now.names c.args.number (asked.Draw c.args.command.now) c.args.run.now.desk c.draw.new.self _ _ t rest
    c.tell_fault-fault.result c.put_reports.result c.outcome_of_reporting.result (sym (rw told at c.tell_fault-fault.ensures))
    (rw told at c.in-Parted.ensures.carries) (rw (c.items-reports.ensures, told) at c.put_reports.ensures) c.outcome_of_reporting.ensures
