use Rattle.std.proofs.Common.{refl}
use Rattle.region.proofs.CursorLemmas.{above_all, begins_rows, row_is}
use Rattle.region.proofs.band_cursor.BandCursor.new.Goals as goal

pub returns-clause-begins : goal.returns-clause-begins
returns-clause-begins c =
    let rects = c.args.rects.now in
    record {
      place = above_all rects;
      stands = λ z le. begins_rows z rects c.requires le;
      nothing = λ z x le. row_is x z rects 0 (begins_rows z rects c.requires le);
      now_nothing = λ x. refl;
    }
