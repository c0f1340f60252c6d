use Rattle.std.proofs.Common.{map}
use Rattle.script_words.specs.AskingLaws.{EachTo}
use Rattle.script_names.specs.Fields.{value_in}
use Rattle.script_names.proofs.tails.values.Given as goal

abbrev pub invariant-loop-i : goal.invariant-loop-i
invariant-loop-i l = EachTo (value_in l.format) (map (λ w. w.now) l.words) l.from l.i l.found.items
