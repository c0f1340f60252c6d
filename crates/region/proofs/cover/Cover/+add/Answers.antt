use Rattle.std.proofs.Common.{◌∙◌, ◌≤ℤ◌, ◌<ℤ◌, ◌⊎◌, ap, sym, subst, arith}
use Rattle.std.proofs.lemmas.Int.{ints}
use Rattle.region.specs.declared.cover.Cover.TheVariants.{Cell}
use Rattle.region.specs.InnerCover.{strip_of, IsCover, IsAdded}
use Rattle.region.proofs.CoverTurnLemmas.{added_whole_cell, added_whole, added_old, added_apart, added_pair, left_sound, right_sound, in_both, in_one}
use Rattle.region.proofs.cover.Cover.+add.Goals as goal

pub see_pair-requires-clause-left : goal.see_pair-requires-clause-left
see_pair-requires-clause-left t c =
    let add = subst (λ u. IsAdded c.args.row.now c.args.rect.now u c.add.new.self) c.deref_mut.ensures.value c.add.ensures in
    let now : c.args.row.now ≤ℤ c.in-Pair.strip.steady = omega (arith, ints, c.if-row-strip.true) in
    left_sound c.args.row.now c.args.self.now c.in-Pair.strip _ c.in-Pair.left.value c.add.new.self _ c.in-Pair.right.value c.args.rect.now c.strip.result.now
    c.in-Pair.is c.requires.cover add now (c.strip.ensures ∙ ap strip_of c.deref.ensures)

pub see_pair-requires-clause-right : goal.see_pair-requires-clause-right
see_pair-requires-clause-right t c =
    let add = subst (λ u. IsAdded c.args.row.now c.args.rect.now u c.add-then-meets.new.self) c.deref_mut-then-meets.ensures.value c.add-then-meets.ensures in
    let now : c.args.row.now ≤ℤ c.in-Pair.strip.steady = omega (arith, ints, c.if-row-strip.true) in
    right_sound c.args.row.now c.args.self.now c.in-Pair.strip _ c.in-Pair.left.value _ c.in-Pair.right.value c.add-then-meets.new.self c.args.rect.now
    c.strip-then-row-strip.result.now c.in-Pair.is c.requires.cover add now
    (c.strip-then-row-strip.ensures ∙ ap strip_of c.deref-then-row-strip.ensures)

pub returns-then-is_in : goal.returns-then-is_in
returns-then-is_in t c =
    let i = in_both c.args.rect.now.left c.in-Cell.strip.from c.in-Cell.strip.to c.args.rect.now.right (sym c.is_in.ensures ∙ c.if-is_in.true) in
    subst (λ u. IsAdded c.args.row.now c.args.rect.now u (Cell c.cover.new.self)) (sym c.in-Cell.is)
    (subst (λ u. IsAdded c.args.row.now c.args.rect.now (Cell c.in-Cell.strip) (Cell u)) (sym c.cover.ensures)
    (added_whole_cell c.args.row.now c.args.rect.now c.in-Cell.strip (subst (IsCover c.args.row.now) c.in-Cell.is c.requires.cover) i.0 i.1 c.requires.bottom))

pub returns-then-is_in-2 : goal.returns-then-is_in-2
returns-then-is_in-2 t c =
    let i = in_both c.args.rect.now.left c.in-Pair.strip.from c.in-Pair.strip.to c.args.rect.now.right (sym c.is_in-in-Pair.ensures ∙ c.if-is_in-2.true) in
    added_whole c.args.row.now c.args.rect.now c.args.self.now c.in-Pair.strip _ c.in-Pair.left.value _ c.in-Pair.right.value c.cover-then-is_in-2.new.self
    c.in-Pair.is c.requires.cover i.0 i.1 c.requires.bottom c.cover-then-is_in-2.ensures

pub returns-then-row-strip : goal.returns-then-row-strip
returns-then-row-strip t c =
    let left = subst (λ u. IsAdded c.args.row.now c.args.rect.now u c.add.new.self) c.deref_mut.ensures.value c.add.ensures in
    let right = subst (λ u. IsAdded c.args.row.now c.args.rect.now u c.add-then-meets.new.self) c.deref_mut-then-meets.ensures.value c.add-then-meets.ensures in
    let now : c.args.row.now ≤ℤ c.in-Pair.strip.steady = omega (arith, ints, c.if-row-strip.true) in
    added_pair c.args.row.now c.args.rect.now c.args.self.now c.in-Pair.strip _ c.in-Pair.left.value c.add.new.self _ c.in-Pair.right.value
    c.add-then-meets.new.self c.strip.result.now c.strip-then-row-strip.result.now c.see_pair.new.self c.in-Pair.is
    c.requires.cover left right now (c.strip.ensures ∙ ap strip_of c.deref.ensures)
    (c.strip-then-row-strip.ensures ∙ ap strip_of c.deref-then-row-strip.ensures) c.see_pair.ensures

pub returns-else-row-strip : goal.returns-else-row-strip
returns-else-row-strip t c =
    let left = subst (λ u. IsAdded c.args.row.now c.args.rect.now u c.add.new.self) c.deref_mut.ensures.value c.add.ensures in
    let right = subst (λ u. IsAdded c.args.row.now c.args.rect.now u c.add-then-meets.new.self) c.deref_mut-then-meets.ensures.value c.add-then-meets.ensures in
    let old : c.in-Pair.strip.steady <ℤ c.args.row.now = omega (arith, ints, c.if-row-strip.false) in
    added_old c.args.row.now c.args.rect.now c.args.self.now c.in-Pair.strip _ c.in-Pair.left.value c.add.new.self _ c.in-Pair.right.value
    c.add-then-meets.new.self c.in-Pair.is c.requires.cover left right old

pub returns-else-meets : goal.returns-else-meets
returns-else-meets t c =
    subst (IsAdded c.args.row.now c.args.rect.now c.args.self.now) c.in-Pair.is
    (added_apart c.args.row.now c.args.rect.now c.args.self.now c.requires.cover
    (subst (λ u. (c.args.rect.now.right ≤ℤ (strip_of u).from) ⊎ ((strip_of u).to ≤ℤ c.args.rect.now.left)) (sym c.in-Pair.is)
    (in_one c.args.rect.now.left c.in-Pair.strip.to c.in-Pair.strip.from c.args.rect.now.right (sym c.meets.ensures ∙ c.if-meets.false))))
