use Rattle.std.proofs.Common.{◌≡◌, drop}
use Rattle.script_read.specs.Commands.{all_verbs, verb_among}
use Rattle.script_read.proofs.verb.verb_of.Given as goal

abbrev pub invariant-loop-verb : goal.invariant-loop-verb
invariant-loop-verb l = verb_among (drop l.verb-index all_verbs) l.word ≡ verb_among all_verbs l.word
