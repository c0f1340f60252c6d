use Rattle.std.proofs.Common.{sym, ◌∙◌}
use Rattle.desk_run.proofs.ReadLemmas.{dump_came, dump_unread_came, read_places}
use Rattle.desk_run.proofs.run.dump.Goals as goal

pub returns-in-Some-clause-came : goal.returns-in-Some-clause-came
returns-in-Some-clause-came g c number =
    dump_unread_came c.args.script.now.names number c.args.desk.now c.args.name _ _ c.read.result c.read.ensures.keeps c.requires.serves c.read.new.out.items
    c.read.ensures.read c.put_unread-written.result c.outcome_of_reporting.result c.in-Some.cause c.read.ensures.faultless (sym c.cause_of.ensures ∙ c.in-Some.is)
    c.is_fault.result c.is_fault.ensures c.put_unread-written.ensures c.outcome_of_reporting.ensures

pub returns-in-None-clause-came : goal.returns-in-None-clause-came
returns-in-None-clause-came g c number =
    dump_came c.args.script.now.names number c.args.desk.now c.args.name _ _ c.read.result c.read.ensures.keeps c.requires.serves c.read.new.out.items
    c.read.ensures.read c.put_dump.result c.outcome_of_writing.result (sym c.cause_of.ensures ∙ c.in-None.is) c.look-look.result
    (c.look-look.ensures.look _ c.requires.serves) (rw c.as_slice-values.ensures.value at c.put_dump.ensures) c.outcome_of_writing.ensures

pub put_dump-requires-clause-places : goal.put_dump-requires-clause-places
put_dump-requires-clause-places g c =
    rw c.as_slice-values.ensures.value (read_places c.args.desk.now c.args.name _ c.requires.serves c.read.result c.read.new.out.items c.look-look.result
    c.read.ensures.read (c.look-look.ensures.look _ c.requires.serves) (sym c.cause_of.ensures ∙ c.in-None.is))
