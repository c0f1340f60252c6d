use Rattle.std.proofs.Common.{take}
use Rattle.script_words.proofs.DigitLemmas.{DigitsTo}
use Rattle.script_words.proofs.spelling.digits.Given as goal

abbrev pub invariant-loop-b : goal.invariant-loop-b
invariant-loop-b l = DigitsTo l.base (take l.b-index l.word) l.b-index l.value
