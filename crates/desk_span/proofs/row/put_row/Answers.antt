use Rattle.std.proofs.Common.{◌∙◌}
use Rattle.surf_obj.specs.Lent.{size_of, values_of}
use Rattle.surf_obj.specs.LentLaws.{length-values_of}
use Rattle.desk_span.proofs.RowCopyLemmas.{row_written}
use Rattle.desk_span.proofs.row.put_row.Goals as goal

pub returns-clause-values : goal.returns-clause-values
returns-clause-values c =
    let row = c.args.row.now in
    c.write_row.ensures.values ∙ row_written (size_of row) (values_of row) c.args.values.now c.requires.width c.requires.height (length-values_of row)
