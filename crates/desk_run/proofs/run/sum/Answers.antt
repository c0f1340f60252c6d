use Rattle.std.proofs.Common.{sym, ◌∙◌}
use Rattle.desk_run.proofs.ReadLemmas.{sum_came, sum_unread_came}
use Rattle.desk_run.proofs.run.sum.Goals as goal

pub returns-in-Some-clause-came : goal.returns-in-Some-clause-came
returns-in-Some-clause-came g c number =
    sum_unread_came c.args.script.now.names number c.args.desk.now c.args.name _ _ c.read.result c.read.ensures.keeps c.requires.serves c.read.new.out.items
    c.read.ensures.read c.put_unread-written.result c.outcome_of_reporting.result c.in-Some.cause c.read.ensures.faultless (sym c.cause_of.ensures ∙ c.in-Some.is)
    c.is_fault.result c.is_fault.ensures c.put_unread-written.ensures c.outcome_of_reporting.ensures

pub returns-in-None-clause-came : goal.returns-in-None-clause-came
returns-in-None-clause-came g c number =
    sum_came c.args.script.now.names number c.args.desk.now c.args.name _ _ c.read.result c.read.ensures.keeps c.requires.serves c.read.new.out.items
    c.read.ensures.read c.put_sum.result c.outcome_of_writing.result (sym c.cause_of.ensures ∙ c.in-None.is)
    (rw c.as_slice.ensures.value at c.put_sum.ensures) c.outcome_of_writing.ensures
