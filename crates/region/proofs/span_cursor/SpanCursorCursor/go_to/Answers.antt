use Rattle.std.proofs.Common.{◌≡◌, ◌∙◌, ◌<ℤ◌, ◌≤◌, sym, subst, get_or, rules, SFits, w32}
use Rattle.std.specs.List.{All}
use Rattle.geom_base.specs.Points.{no_rect}
use Rattle.region.specs.InnerCursor.{AreInBand, in_columns, IsAtColumn, columns_left}
use Rattle.region.proofs.CursorLemmas.{sorted_by_right, in_band_drop, columns_rest, first_begun, begun_none, begun_first, band_at, fewer_columns}
use Rattle.region.proofs.span_cursor.SpanCursorCursor.go_to.Goals as goal
use Rattle.region.proofs.span_cursor.SpanCursorCursor.go_to.Goals.{in-empty, in-len1-up}

pub count_until-ended-requires : goal.count_until-ended-requires
count_until-ended-requires c = sorted_by_right c.args.self.now.rects.now c.requires.1.band

pub returns-clause-at : goal.returns-clause-at
returns-clause-at c =
    let rest = c.split_at.result.1.now in
    let place = c.args.place.now in
    let inside : c.if-self-lt1.self ≡ first_begun place rest = elim c.if-self-lt1.branch [
      | in-empty w ↦ w.self-is ∙ begun_none place rest w.in-empty.len_below
      | in-len1-up w ↦ let fits : SFits w32 place = search rules in let left : SFits w32 (get_or rest 0 no_rect).left = search rules in
          w.self-is ∙ begun_first place rest no_rect w.in-len1-up.len_at_least fits left
    ] in
    let band = subst AreInBand (sym c.split_at.ensures.back) (in_band_drop c.count_until-ended.result c.args.self.now.rects.now c.requires.1.band) in
    let ahead = subst (All (λ r. place <ℤ r.right)) (sym c.split_at.ensures.back) c.count_until-ended.ensures.later in
    subst (IsAtColumn place rest) (sym inside) (band_at place rest band ahead)

pub returns-clause-rest : goal.returns-clause-rest
returns-clause-rest c = λ z x le.
    subst (λ rest. in_columns z rest ≡ in_columns z c.args.self.now.rects.now) (sym c.split_at.ensures.back)
    (columns_rest z c.args.place.now c.args.self.now.rects.now c.count_until-ended.result c.count_until-ended.ensures.before le)

pub returns-clause-fewer : goal.returns-clause-fewer
returns-clause-fewer c =
    let rects = c.args.self.now.rects.now in
    let now = c.if-self-lt1.self in
    subst (λ rest. columns_left rest now ≤ columns_left rects c.args.self.now.inside) (sym c.split_at.ensures.back)
    (fewer_columns c.requires.0 c.args.place.now rects c.args.self.now.inside now c.count_until-ended.result c.requires.1
    (subst (λ rest. IsAtColumn c.args.place.now rest now) c.split_at.ensures.back (returns-clause-at c)) c.requires.2
    c.count_until-ended.ensures.within)
