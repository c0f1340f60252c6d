use Rattle.std.proofs.Common.{◌<◌, ◌<ℤ◌, ◌≤ℤ◌, ◌∙◌, sym, subst, refl, ap, arith, get_or, length, length-drop}
use Rattle.std.proofs.lemmas.Int.{ints, to_z-of_z}
use Rattle.std.proofs.lemmas.Bool.{false≢true}
use Rattle.geom_base.specs.Points.{no_rect}
use Rattle.region.specs.InnerCursor.{AreInBand}
use Rattle.region.specs.InnerMeets.{HasColumnIn, IsLeft}
use Rattle.region.proofs.CursorLemmas.{sorted_by_top, sorted_by_bottom}
use Rattle.region.proofs.MeetsLemmas.{left_at_first, none_below, first_band, first_is_band, band_meets, left_below, some_begun}
use Rattle.region.proofs.meets.rects_meet.Goals as goal

pub count_until-requires : goal.count_until-requires
count_until-requires c = sorted_by_bottom c.args.rects.now c.requires

pub loop-rest-init : goal.loop-rest-init
loop-rest-init c =
    subst (IsLeft c.args.rects.now c.args.rect.now) (sym c.split_at.ensures.back)
    (left_at_first c.args.rects.now c.args.rect.now c.count_until.result c.requires c.count_until.ensures.before c.count_until.ensures.later)

pub returns-then-rect-first : goal.returns-then-rect-first
returns-then-rect-first c =
    let below : c.args.rect.now.bottom ≤ℤ (get_or c.loop-rest.rest.now 0 no_rect).top = grind (arith, ints, to_z-of_z, c.if-rect-first.true) in (
      λ e. absurd (false≢true e),
      λ s. absurd (none_below c.args.rects.now c.args.rect.now c.loop-rest.rest.now no_rect c.loop-rest.invariant c.in-len1-up.len_at_least below s),
    )

pub count_until-requires-in-len1-up : goal.count_until-requires-in-len1-up
count_until-requires-in-len1-up c = sorted_by_top c.loop-rest.rest.now c.loop-rest.invariant.order

pub has_column_in-requires-clause-band : goal.has_column_in-requires-clause-band
has_column_in-requires-clause-band c =
    let rest = c.loop-rest.rest.now in
    let passed = c.count_until-in-len1-up.result in
    subst AreInBand (sym c.split_at-in-len1-up.ensures.front)
    (first_is_band rest (get_or rest 0 no_rect).top passed
    (first_band rest no_rect passed c.loop-rest.invariant.order c.in-len1-up.len_at_least c.count_until-in-len1-up.ensures.before))

pub returns-then-has_column_in : goal.returns-then-has_column_in
returns-then-has_column_in c =
    let rest = c.loop-rest.rest.now in
    let passed = c.count_until-in-len1-up.result in
    let rect = c.args.rect.now in
    let above : (get_or rest 0 no_rect).top <ℤ rect.bottom = grind (arith, ints, to_z-of_z, c.if-rect-first.false) in
    let column = subst (λ band. HasColumnIn band rect.left rect.right) c.split_at-in-len1-up.ensures.front
    (c.has_column_in.ensures.0 c.if-has_column_in.true) in (
      λ e. band_meets c.args.rects.now rect rest (get_or rest 0 no_rect).top passed c.loop-rest.invariant
          (first_band rest no_rect passed c.loop-rest.invariant.order c.in-len1-up.len_at_least c.count_until-in-len1-up.ensures.before) column
          (c.if-not-has_points.ensures.points.0 refl).down above,
      λ s. refl,
    )

pub loop-rest-smaller : goal.loop-rest-smaller
loop-rest-smaller c =
    let rest = c.loop-rest.rest.now in
    let passed = c.count_until-in-len1-up.result in
    let some : 0 < passed = some_begun rest no_rect passed c.in-len1-up.len_at_least c.count_until-in-len1-up.ensures.later in
    omega (arith, some, ap length c.split_at-in-len1-up.ensures.back, length-drop passed rest, c.in-len1-up.len_at_least)

pub loop-rest-preserved : goal.loop-rest-preserved
loop-rest-preserved c =
    let rest = c.loop-rest.rest.now in
    let passed = c.count_until-in-len1-up.result in
    let rect = c.args.rect.now in
    subst (IsLeft c.args.rects.now rect) (sym c.split_at-in-len1-up.ensures.back)
    (left_below c.args.rects.now rect rest passed c.loop-rest.invariant
    (λ has. false≢true (sym c.if-has_column_in.false
    ∙ c.has_column_in.ensures.1 (subst (λ band. HasColumnIn band rect.left rect.right) (sym c.split_at-in-len1-up.ensures.front) has))))
