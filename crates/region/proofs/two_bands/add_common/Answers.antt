use Rattle.std.proofs.Common.{◌≡◌, ◌∙◌, ◌≤◌, ◌&&◌, ap, sym, arith, rules, get_or, length, to_z, of_z, w32}
use Rattle.std.specs.Int.{int_min, int_max}
use Rattle.std.proofs.lemmas.Int.{to_z-of_z}
use Rattle.geom_base.specs.Points.{no_rect}
use Rattle.region.specs.InnerCursor.{in_columns}
use Rattle.region.proofs.BoundsLemmas.{single}
use Rattle.region.proofs.UniqueLemmas.{on_ok_also}
use Rattle.region.proofs.RowLemmas.{meeting_starts, meeting_row, meeting_next, meeting_fewer}
use Rattle.region.proofs.two_bands.add_common.Goals as goal

pub add_within-requires-clause-across : goal.add_within-requires-clause-across
add_within-requires-clause-across c = c.requires.right.columns 0 no_rect (omega (arith, c.in-len1.len_at_least))

pub returns-in-len1-clause-points : goal.returns-in-len1-clause-points
returns-in-len1-clause-points c =
    let only = single c.args.right.now no_rect c.in-len1.len_at_least c.in-len1.len_below in
    on_ok_also _ _ c.add_within.result (λ points x. points x ∙ ap (λ l. in_columns x c.args.left.now && in_columns x l) (sym only))
    c.add_within.ensures.points

pub loop-a-init : goal.loop-a-init
loop-a-init c = meeting_starts c.args.left.now c.args.right.now c.args.row.now.spans.items c.requires.left c.requires.right c.requires.nothing

pub add-requires : goal.add-requires
add-requires c =
    let a = c.loop-a.a.now in
    let b = c.loop-a.b.now in
    let some : 1 ≤ length a = search rules in
    let other : 1 ≤ length b = search rules in
    let from : to_z w32 (of_z w32 c.max-from.result) ≡ int_max (get_or a 0 no_rect).left (get_or b 0 no_rect).left =
    grind (arith, to_z-of_z, c.max-from.ensures.value) in
    meeting_row _ a b no_rect c.loop-a.row.spans.items _ some other from c.loop-a.invariant

pub loop-a-smaller : goal.loop-a-smaller
loop-a-smaller c =
    let a = c.loop-a.a.now in
    let b = c.loop-a.b.now in
    let some : 1 ≤ length a = search rules in
    let other : 1 ≤ length b = search rules in
    let to : to_z w32 (of_z w32 c.min-to.result) ≡ int_min (get_or a 0 no_rect).right (get_or b 0 no_rect).right =
    grind (arith, to_z-of_z, c.min-to.ensures.value) in
    let place : to_z w32 (of_z w32 c.max-place.result) ≡ int_max (to_z w32 (of_z w32 c.max-from.result)) (to_z w32 (of_z w32 c.min-to.result)) =
    grind (arith, to_z-of_z, c.max-place.ensures.value) in
    meeting_fewer a b c.past-a.result.now c.past-b.result.now no_rect _ _ _ some other to place c.past-a.ensures c.past-b.ensures

pub loop-a-preserved : goal.loop-a-preserved
loop-a-preserved c =
    let a = c.loop-a.a.now in
    let b = c.loop-a.b.now in
    let some : 1 ≤ length a = search rules in
    let other : 1 ≤ length b = search rules in
    let from : to_z w32 (of_z w32 c.max-from.result) ≡ int_max (get_or a 0 no_rect).left (get_or b 0 no_rect).left =
    grind (arith, to_z-of_z, c.max-from.ensures.value) in
    let to : to_z w32 (of_z w32 c.min-to.result) ≡ int_min (get_or a 0 no_rect).right (get_or b 0 no_rect).right =
    grind (arith, to_z-of_z, c.min-to.ensures.value) in
    let place : to_z w32 (of_z w32 c.max-place.result) ≡ int_max (to_z w32 (of_z w32 c.max-from.result)) (to_z w32 (of_z w32 c.min-to.result)) =
    grind (arith, to_z-of_z, c.max-place.ensures.value) in
    meeting_next _ a b c.past-a.result.now c.past-b.result.now no_rect c.loop-a.row.spans.items c.add.new.self.spans.items _ _ _ some other
    from to place c.past-a.ensures c.past-b.ensures c.loop-a.invariant c.in_ok-add.ensures.row c.in_ok-add.ensures.points
