use Rattle.std.proofs.Common.{arith}
use Rattle.script_words.specs.SpellingLaws.{below_power}
use Rattle.script_words.proofs.spelling.hexadecimal.Goals as goal

pub returns-in-Some-clause-small : goal.returns-in-Some-clause-small
returns-in-Some-clause-small c = below_power c.args.word.now _ c.args.count (omega arith) c.in-Some.ensures
