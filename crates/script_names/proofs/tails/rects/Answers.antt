use Rattle.std.proofs.Common.{arith, sym}
use Rattle.std.proofs.lemmas.List.{length-map}
use Rattle.std.proofs.lemmas.Result.{err_from_is_err_and}
use Rattle.script_names.proofs.RectLemmas.{rects_step, rects_exit, rects_end}
use Rattle.script_names.proofs.tails.rects.Goals as goal

pub returns-in_err-one-clause-value : goal.returns-in_err-one-clause-value
returns-in_err-one-clause-value c =
    let p = err_from_is_err_and c.from_residual.result c.from_residual.ensures.1 in
    rw (p.1, p.2) (rects_exit _ c.loop-i.invariant (grind (arith, length-map)) (sym c.in_err-one.ensures.value))

pub loop-i-preserved : goal.loop-i-preserved
loop-i-preserved c = rw c.in_ok-push.ensures.items
    (rects_step c.in_ok-one.one c.loop-i.invariant (grind (arith, length-map)) (sym c.in_ok-one.ensures.value) c.in_ok-one.ensures.range)

pub returns-clause-value : goal.returns-clause-value
returns-clause-value c = rects_end c.loop-i.invariant (grind (arith, length-map))
