use Rattle.std.proofs.Common.{◌≤◌, arith}
use Rattle.script_words.specs.Bounds.{greatest_number}
use Rattle.script_words.proofs.DigitLemmas.{within_greatest}
use Rattle.script_words.proofs.spelling.decimal.Goals as goal

pub overflow_cast-result : goal.overflow_cast-result
overflow_cast-result c =
    let small : c.in-Some.size ≤ greatest_number = within_greatest c.args.word.now _ c.in-Some.ensures in
    omega arith

pub returns-in-Some-clause-small : goal.returns-in-Some-clause-small
returns-in-Some-clause-small c = within_greatest c.args.word.now _ c.in-Some.ensures
