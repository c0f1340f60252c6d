use Rattle.std.proofs.Common.{◌≡◌, ◌++◌, OnOk, sym, subst, rules, SFits, w32}
use Rattle.std.proofs.lemmas.Int.{to_z-of_z}
use Rattle.region.specs.InnerSpanList.{steps_of}
use Rattle.region.proofs.CoverStepLemmas.{empty_steps}
use Rattle.region.proofs.cover.Cover.+push_steps.Goals as goal

pub returns-then-strip-eq0-clause-steps : goal.returns-then-strip-eq0-clause-steps
returns-then-strip-eq0-clause-steps t c =
    let fits : SFits w32 c.in-Pair.strip.from = search rules in
    subst (λ u. OnOk c.turn-then-strip-eq0.result (steps_of c.turn-then-strip-eq0.new.self ≡ steps_of c.args.out.now ++ u))
    (sym (empty_steps c.args.row.now c.args.self.now c.in-Pair.strip _ c.in-Pair.left.value _ c.in-Pair.right.value c.args.out.now.inside c.in-Pair.is
    c.requires.cover c.requires.steady c.if-strip-eq0.true).0) (rw (to_z-of_z w32 c.in-Pair.strip.from fits) at c.turn-then-strip-eq0.ensures.steps)

pub returns-then-strip-eq0-clause-inside : goal.returns-then-strip-eq0-clause-inside
returns-then-strip-eq0-clause-inside t c =
    subst (λ u. OnOk c.turn-then-strip-eq0.result (c.turn-then-strip-eq0.new.self.inside ≡ u))
    (sym (empty_steps c.args.row.now c.args.self.now c.in-Pair.strip _ c.in-Pair.left.value _ c.in-Pair.right.value c.args.out.now.inside c.in-Pair.is
    c.requires.cover c.requires.steady c.if-strip-eq0.true).1) c.turn-then-strip-eq0.ensures.inside
