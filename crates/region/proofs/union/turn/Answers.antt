use Rattle.std.proofs.Common.{◌≤◌, ◌<ℤ◌, ◌≤ℤ◌, length, get_or, arith, rules}
use Rattle.std.proofs.lemmas.Int.{ints, to_z-of_z}
use Rattle.geom_base.specs.Points.{no_rect}
use Rattle.region.proofs.CursorLemmas.{sorted_by_top}
use Rattle.region.proofs.UnionLemmas.{turned_below, turned_on}
use Rattle.region.proofs.union.turn.Goals as goal
use Rattle.region.proofs.union.turn.Goals.{in_default-via-then-here-lt1, in_default-via-in-len1-up+else-first-bottom}

pub count_until-requires : goal.count_until-requires
count_until-requires c = sorted_by_top c.args.rects.now c.requires.1.left.order

pub returns-in-len1-up : goal.returns-in-len1-up
returns-in-len1-up c = λ row h.
    let ended : (get_or c.split_at.result.0.now 0 no_rect).bottom ≤ℤ c.args.bottom.now = grind (arith, ints, to_z-of_z, c.if-first-bottom.true) in
    turned_below row c.args.top.now c.args.bottom.now c.args.rects.now c.split_at.result.0.now c.split_at.result.1.now c.count_until.result h
    c.count_until.ensures.within c.count_until.ensures.before c.count_until.ensures.later c.split_at.ensures.front c.split_at.ensures.back
    c.in-len1-up.len_at_least ended

pub returns-in_default : goal.returns-in_default
returns-in_default c = λ row h.
    let here = c.split_at.result.0.now in
    let goes_on : 1 ≤ length here → c.args.bottom.now <ℤ (get_or here 0 no_rect).bottom = elim c.in_default.branch [
      | in_default-via-then-here-lt1 w ↦ λ some. absurd (search (rules, arith, some))
      | in_default-via-in-len1-up+else-first-bottom w ↦ λ some. grind (arith, ints, to_z-of_z, w.if-first-bottom.false)
    ] in
    turned_on row c.args.top.now c.args.bottom.now c.args.rects.now here c.count_until.result h c.count_until.ensures.within c.count_until.ensures.before
    c.count_until.ensures.later c.split_at.ensures.front goes_on
