use Rattle.std.proofs.Common.{map}
use Rattle.script_words.specs.AskingLaws.{EachTo}
use Rattle.script_words.specs.Places.{colour_in}
use Rattle.script_names.proofs.tails.colours.Given as goal

abbrev pub invariant-loop-i : goal.invariant-loop-i
invariant-loop-i l = EachTo colour_in (map (λ w. w.now) l.words) l.from l.i l.found.items
