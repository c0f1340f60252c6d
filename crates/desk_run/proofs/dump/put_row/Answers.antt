use Rattle.std.proofs.Common.{refl, ◌∙◌}
use Rattle.desk_run.proofs.HexLemmas.{cell_put, row_end}
use Rattle.desk_run.proofs.dump.put_row.Goals as goal

pub loop-i-preserved : goal.loop-i-preserved
loop-i-preserved c = cell_put c.loop-i.line c.args.values.now c.put_hex.new.cell c.args.digits c.loop-i.i _ 0 c.loop-i-test.true
    (c.loop-i.auto.line ∙ c.requires.room) refl c.put_hex.ensures c.loop-i.invariant

pub returns : goal.returns
returns c = row_end c.loop-i.line c.args.values.now c.args.digits c.loop-i.i c.loop-i-test.false c.loop-i.auto.i-end
    (c.loop-i.auto.line ∙ c.requires.room) c.loop-i.invariant
