use Rattle.std.proofs.Common.{◌≡◌, ℤ, List, arith, rules, get_or, sym, subst, to_z, of_z, w32}
use Rattle.std.specs.Int.{int_max}
use Rattle.std.proofs.lemmas.Int.{to_z-of_z}
use Rattle.geom_base.specs.declared.rect.Rect.{Rect}
use Rattle.geom_base.specs.Points.{no_rect}
use Rattle.region.specs.InnerRows.{IsFree}
use Rattle.region.proofs.RowLemmas.{less_starts, less_row, less_next, less_fewer}
use Rattle.region.proofs.two_bands.add_others.Goals as goal

pub loop-a-init : goal.loop-a-init
loop-a-init c = less_starts c.args.left.now c.args.right.now no_rect _ c.args.row.now.spans.items c.in-len1-up.len_at_least
    (search (rules, to_z-of_z)) c.requires.left c.requires.right c.requires.nothing

-- numbers of code
abbrev code : ℤ → ℤ
code z = to_z w32 (of_z w32 z)

free_code : (r : Rect) (b : List Rect) (to end : ℤ) → code to ≡ to → code end ≡ end → IsFree r b to end → IsFree r b (code to) (code end)
free_code r b to end e f free = subst (λ z. IsFree r b z (code end)) (sym e) (subst (IsFree r b to) (sym f) free)

pub add-requires : goal.add-requires
add-requires c = less_row _ c.loop-a.a.now c.loop-a.b.now no_rect c.loop-a.row.spans.items _ (to_z w32 c.loop-a.place-bits) c.in-len1-up-a.len_at_least
    (grind (arith, to_z-of_z, c.max-from.ensures.value)) c.loop-a.invariant

pub loop-a-smaller : goal.loop-a-smaller
loop-a-smaller c =
    let free = free_code (get_or c.loop-a.a.now 0 no_rect) c.loop-a.b.now c.end_before-to.result.0 c.end_before-to.result.1 (search (rules, to_z-of_z))
    (search (rules, to_z-of_z)) c.end_before-to.ensures in
    let next : code c.max-place.result ≡ int_max (code c.end_before-to.result.1) (code c.max-from.result) =
    grind (arith, to_z-of_z, c.max-place.ensures.value) in
    less_fewer c.loop-a.a.now c.loop-a.b.now c.past-a.result.now c.past-b.result.now no_rect _ _ _ _ c.in-len1-up-a.len_at_least free next
    c.past-a.ensures c.past-b.ensures

pub loop-a-preserved : goal.loop-a-preserved
loop-a-preserved c =
    let free = free_code (get_or c.loop-a.a.now 0 no_rect) c.loop-a.b.now c.end_before-to.result.0 c.end_before-to.result.1 (search (rules, to_z-of_z))
    (search (rules, to_z-of_z)) c.end_before-to.ensures in
    let from : code c.max-from.result ≡ int_max (get_or c.loop-a.a.now 0 no_rect).left (to_z w32 c.loop-a.place-bits) =
    grind (arith, to_z-of_z, c.max-from.ensures.value) in
    let next : code c.max-place.result ≡ int_max (code c.end_before-to.result.1) (code c.max-from.result) =
    grind (arith, to_z-of_z, c.max-place.ensures.value) in
    less_next _ c.loop-a.a.now c.loop-a.b.now c.past-a.result.now c.past-b.result.now no_rect c.loop-a.row.spans.items
    c.add.new.self.spans.items _ _ _ _ _ c.in-len1-up-a.len_at_least from free next c.past-a.ensures c.past-b.ensures
    c.loop-a.invariant c.in_ok-add.ensures.row c.in_ok-add.ensures.points
