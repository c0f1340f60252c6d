use Rattle.desk_run.proofs.MakeLemmas.{bitmap_gone, bitmap_made, brush_made, nothing_came}
use Rattle.desk_run.proofs.run.carry_out.Goals as goal

pub returns-in-Create-clause-came : goal.returns-in-Create-clause-came
returns-in-Create-clause-came g c =
    rw c.in-Create.is (bitmap_made c.args.run.now.script.now.names c.args.number c.args.run.now.desk c.create.new.self _ c.requires.serves _ _ c.in-Create.order c.create.result c.outcome_of_making.result
    c.outcome_of_making.ensures c.create.ensures.ok c.create.ensures.err)

pub returns-in-Delete-clause-came : goal.returns-in-Delete-clause-came
returns-in-Delete-clause-came g c =
    rw c.in-Delete.is (bitmap_gone c.args.run.now.script.now.names c.args.number c.args.run.now.desk c.delete.new.self _ c.requires.serves _ _ c.in-Delete.number c.delete.ensures)

pub returns-in-Brush-clause-came : goal.returns-in-Brush-clause-came
returns-in-Brush-clause-came g c =
    rw c.in-Brush.is (brush_made c.args.run.now.script.now.names c.args.number c.args.run.now.desk c.make_brush.new.self _ c.requires.serves _ _ c.in-Brush.order c.make_brush.result c.outcome_of_making-in-Brush.result
    c.outcome_of_making-in-Brush.ensures c.make_brush.ensures.ok c.make_brush.ensures.err)

pub returns-in-Draw-clause-came : goal.returns-in-Draw-clause-came
returns-in-Draw-clause-came g c = rw c.in-Draw.is c.draw.ensures.came

pub returns-in-Dump-clause-came : goal.returns-in-Dump-clause-came
returns-in-Dump-clause-came g c = rw c.in-Dump.is (c.dump.ensures.came c.args.number)

pub returns-in-Sum-clause-came : goal.returns-in-Sum-clause-came
returns-in-Sum-clause-came g c = rw c.in-Sum.is (c.sum.ensures.came c.args.number)

pub returns-in-Nothing-clause-came : goal.returns-in-Nothing-clause-came
returns-in-Nothing-clause-came g c =
    rw c.in-Nothing.is (nothing_came c.args.run.now.script.now.names c.args.number c.args.run.now.desk _ c.requires.serves _ _)
