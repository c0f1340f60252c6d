use Rattle.std.proofs.Common.{◌≡◌, ◌<ℤ◌, ◌<◌, sym, subst, arith, drop}
use Rattle.std.specs.List.{All}
use Rattle.std.proofs.lemmas.Int.{ints}
use Rattle.geom_base.specs.Points.{is_in_some}
use Rattle.region.specs.declared.search.Edge.TheVariants.{Top}
use Rattle.region.specs.Canonical.{point_from}
use Rattle.region.specs.InnerSearch.{AreSorted}
use Rattle.region.specs.InnerCursor.{rows_left}
use Rattle.region.proofs.CursorLemmas.{sorted_by_top, sorted_by_bottom, in_order_drop, rows_rest, still_in_band, band_end_is_ahead, fewer_rows}
use Rattle.region.proofs.band_cursor.BandCursorCursor.go_to.Goals as goal
use Rattle.region.proofs.band_cursor.BandCursorCursor.go_to.Goals.{else-ended-eq0-via-then-ended-eq0+else-self-gt0, else-ended-eq0-via-else-ended-eq0}

pub count_until-ended-requires : goal.count_until-ended-requires
count_until-ended-requires c = sorted_by_bottom c.args.self.now.rects.now c.requires.1.order

pub returns-then-self-gt0-clause-at : goal.returns-then-self-gt0-clause-at
returns-then-self-gt0-clause-at c =
    still_in_band c.requires.0 c.args.place.now c.args.self.now.rects.now c.args.self.now.here c.count_until-ended.result c.requires.1 c.if-self-gt0.true
    c.requires.2 c.if-ended-eq0.true c.count_until-ended.ensures.later

pub returns-then-self-gt0-clause-less : goal.returns-then-self-gt0-clause-less
returns-then-self-gt0-clause-less c = λ n next le.
    absurd (omega (
      arith,
      ints,
      le,
      band_end_is_ahead c.args.place.now n c.args.self.now.rects.now c.args.self.now.here c.count_until-ended.result
          c.if-self-gt0.true c.if-ended-eq0.true c.count_until-ended.ensures.later next,
    ))

pub count_until-self-requires : goal.count_until-self-requires
count_until-self-requires c =
    subst (AreSorted Top) (sym c.split_at.ensures.back)
    (sorted_by_top _ (in_order_drop c.count_until-ended.result c.args.self.now.rects.now c.requires.1.order))

pub returns-clause-rest : goal.returns-clause-rest
returns-clause-rest c = λ z x le.
    subst (λ rest. is_in_some (point_from x z) rest ≡ is_in_some (point_from x z) c.args.self.now.rects.now) (sym c.split_at.ensures.back)
    (rows_rest (point_from x z) c.args.place.now c.args.self.now.rects.now c.count_until-ended.result c.count_until-ended.ensures.before le)

pub returns-clause-less : goal.returns-clause-less
returns-clause-less c = λ n next le.
    let rects = c.args.self.now.rects.now in
    let passed = c.count_until-ended.result in
    let here = c.args.self.now.here in
    let between : passed ≡ 0 → here ≡ 0 = elim c.else-ended-eq0.branch [
      | else-ended-eq0-via-then-ended-eq0+else-self-gt0 w ↦ λ e. omega (arith, w.if-self-gt0.false)
      | else-ended-eq0-via-else-ended-eq0 w ↦ λ e. absurd (w.if-ended-eq0.false e)
    ] in
    let later = subst (λ rest. All (λ r. c.args.place.now <ℤ r.top) (drop c.count_until-self.result rest)) c.split_at.ensures.back
    c.count_until-self.ensures.later in
    subst (λ rest. rows_left rest c.count_until-self.result < rows_left rects here) (sym c.split_at.ensures.back)
    (fewer_rows c.args.place.now n rects here passed c.count_until-self.result between c.count_until-ended.ensures.within later next le)
