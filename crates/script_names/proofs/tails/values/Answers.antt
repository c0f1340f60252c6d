use Rattle.std.proofs.Common.{arith, sym, ap, ◌∙◌}
use Rattle.script_names.specs.Fields.{value_in}
use Rattle.std.proofs.lemmas.List.{length-map}
use Rattle.std.proofs.lemmas.Result.{err_from_is_err_and}
use Rattle.script_words.specs.AskingLaws.{each_step, each_exit}
use Rattle.script_names.proofs.tails.values.Goals as goal

pub returns-in_err-one : goal.returns-in_err-one
returns-in_err-one c =
    let p = err_from_is_err_and c.from_residual.result c.from_residual.ensures.1 in
    rw (p.1, p.2) (each_exit _ c.loop-i.invariant (grind (arith, length-map)) (ap (value_in c.args.format) (sym c.word.ensures) ∙ sym c.in_err-one.ensures))

pub loop-i-preserved : goal.loop-i-preserved
loop-i-preserved c = rw c.in_ok-push.ensures.items
    (each_step c.in_ok-one.one c.loop-i.invariant (grind (arith, length-map)) (ap (value_in c.args.format) (sym c.word.ensures) ∙ sym c.in_ok-one.ensures))
