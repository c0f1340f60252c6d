use Rattle.std.proofs.Common.{◌∙◌, ◌≤ℤ◌, ap, sym, subst, arith, pos}
use Rattle.std.proofs.lemmas.Int.{ints}
use Rattle.region.specs.declared.cover.Cover.TheVariants.{Cell}
use Rattle.region.specs.InnerCover.{strip_of, IsCover, IsMoved}
use Rattle.region.proofs.CoverTurnLemmas.{seen_cell, moved_sizes, moved_sound, moved_on, moved_not}
use Rattle.region.proofs.cover.Cover.+go_to.Goals as goal

pub see_pair-requires-clause-size : goal.see_pair-requires-clause-size
see_pair-requires-clause-size t c =
    let left = subst (λ u. IsMoved c.args.row.now u c.go_to.new.self) c.deref_mut.ensures.value c.go_to.ensures in
    let right = subst (λ u. IsMoved c.args.row.now u c.go_to-then-strip-row-2.new.self) c.deref_mut-then-strip-row-2.ensures.value
    c.go_to-then-strip-row-2.ensures in
    moved_sizes c.args.row.now c.args.self.now c.in-Pair.strip _ c.in-Pair.left.value c.go_to.new.self _ c.in-Pair.right.value
    c.go_to-then-strip-row-2.new.self c.strip.result.now c.strip-then-strip-row-2.result.now c.in-Pair.is c.requires left.shape right.shape
    (c.strip.ensures ∙ ap strip_of c.deref.ensures) (c.strip-then-strip-row-2.ensures ∙ ap strip_of c.deref-then-strip-row-2.ensures)

pub see_pair-requires-clause-left : goal.see_pair-requires-clause-left
see_pair-requires-clause-left t c =
    let left = subst (λ u. IsMoved c.args.row.now u c.go_to.new.self) c.deref_mut.ensures.value c.go_to.ensures in
    moved_sound c.args.row.now c.in-Pair.strip.until c.in-Pair.left.value c.go_to.new.self c.strip.result.now left
    (c.strip.ensures ∙ ap strip_of c.deref.ensures)

pub see_pair-requires-clause-right : goal.see_pair-requires-clause-right
see_pair-requires-clause-right t c =
    let right = subst (λ u. IsMoved c.args.row.now u c.go_to-then-strip-row-2.new.self) c.deref_mut-then-strip-row-2.ensures.value
    c.go_to-then-strip-row-2.ensures in
    moved_sound c.args.row.now c.in-Pair.strip.until c.in-Pair.right.value c.go_to-then-strip-row-2.new.self c.strip-then-strip-row-2.result.now right
    (c.strip-then-strip-row-2.ensures ∙ ap strip_of c.deref-then-strip-row-2.ensures)

pub returns-then-strip-row : goal.returns-then-strip-row
returns-then-strip-row t c =
    let top : c.args.row.now ≤ℤ pos 2147483647 = omega (arith, ints) in
    let shaped = (subst (IsCover c.args.row.now) c.in-Cell.is c.requires).shaped in
    subst (λ u. IsMoved c.args.row.now u (Cell c.see_cell.new.self)) (sym c.in-Cell.is)
    (subst (λ u. IsMoved c.args.row.now (Cell c.in-Cell.strip) (Cell u)) (sym c.see_cell.ensures) (seen_cell c.args.row.now c.in-Cell.strip top shaped))

pub returns-then-strip-row-2 : goal.returns-then-strip-row-2
returns-then-strip-row-2 t c =
    let left = subst (λ u. IsMoved c.args.row.now u c.go_to.new.self) c.deref_mut.ensures.value c.go_to.ensures in
    let right = subst (λ u. IsMoved c.args.row.now u c.go_to-then-strip-row-2.new.self) c.deref_mut-then-strip-row-2.ensures.value
    c.go_to-then-strip-row-2.ensures in
    moved_on c.args.row.now c.args.self.now c.in-Pair.strip _ c.in-Pair.left.value c.go_to.new.self _ c.in-Pair.right.value c.go_to-then-strip-row-2.new.self
    c.strip.result.now c.strip-then-strip-row-2.result.now c.see_pair.new.self c.in-Pair.is c.requires left right
    (c.strip.ensures ∙ ap strip_of c.deref.ensures) (c.strip-then-strip-row-2.ensures ∙ ap strip_of c.deref-then-strip-row-2.ensures) c.see_pair.ensures

pub returns-else-strip-row-2 : goal.returns-else-strip-row-2
returns-else-strip-row-2 t c =
    let now : c.args.row.now ≤ℤ c.in-Pair.strip.steady = omega (arith, ints, c.if-strip-row-2.false) in
    subst (IsMoved c.args.row.now c.args.self.now) c.in-Pair.is
    (moved_not c.args.row.now c.args.self.now c.requires (subst (λ u. c.args.row.now ≤ℤ (strip_of u).steady) (sym c.in-Pair.is) now))
