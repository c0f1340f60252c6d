use Rattle.std.proofs.Common.{◌<ℤ◌, arith, get_or}
use Rattle.std.proofs.lemmas.Int.{ints, to_z-of_z}
use Rattle.std.proofs.lemmas.Bool.{false≢true}
use Rattle.geom_base.specs.Points.{no_rect}
use Rattle.region.specs.InnerCursor.{AreInBand}
use Rattle.region.proofs.RowLemmas.{past_band}
use Rattle.region.proofs.MeetsLemmas.{column_in_rest, column_of_rest, none_of_none, first_column, first_begins}
use Rattle.region.proofs.meets.has_column_in.Goals as goal

pub returns-in-empty : goal.returns-in-empty
returns-in-empty c =
    let left = c.args.left.now in
    let right = c.args.right.now in (
      λ e. absurd (false≢true e),
      λ has. absurd (none_of_none left right c.past.result.now c.in-empty.len_below
          (column_of_rest left right c.args.band.now c.past.result.now c.past.ensures has)),
    )

pub returns-in-len1-up : goal.returns-in-len1-up
returns-in-len1-up c =
    let left = c.args.left.now in
    let right = c.args.right.now in
    let rest = c.past.result.now in
    let band : AreInBand rest = past_band left c.args.band.now rest c.past.ensures c.requires.band in (
      λ e.
          let begins : (get_or rest 0 no_rect).left <ℤ right = grind (arith, ints, to_z-of_z, e) in
          column_in_rest left right c.args.band.now rest c.past.ensures
          (first_column left right rest no_rect band c.past.ensures.ahead c.requires.across c.in-len1-up.len_at_least begins),
      λ has.
          let begins : (get_or rest 0 no_rect).left <ℤ right = first_begins left right rest no_rect band c.in-len1-up.len_at_least
          (column_of_rest left right c.args.band.now rest c.past.ensures has) in
          grind (arith, ints, to_z-of_z, begins),
    )
