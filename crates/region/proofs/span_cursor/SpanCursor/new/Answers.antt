use Rattle.std.proofs.Common.{refl, sym}
use Rattle.region.proofs.CursorLemmas.{left_of_all, begins_columns}
use Rattle.region.proofs.span_cursor.SpanCursor.new.Goals as goal

pub returns-clause-begins : goal.returns-clause-begins
returns-clause-begins c =
    let rects = c.args.rects.now in
    record {
      place = left_of_all rects;
      stands = λ z le. begins_columns z rects c.requires le;
      nothing = λ z x le. sym (begins_columns z rects c.requires le).here;
      now_nothing = λ x. refl;
    }
