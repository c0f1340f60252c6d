use Rattle.std.proofs.Common.{◌∙◌}
use Rattle.script_read.specs.Commands.{all_verbs}
use Rattle.script_read.specs.declared.verb.Verb.TheVariants.{Back}
use Rattle.script_read.proofs.VerbLemmas.{passed_over}
use Rattle.script_read.proofs.verb.verb_of.Goals as goal

pub loop-verb-preserved : goal.loop-verb-preserved
loop-verb-preserved c = passed_over all_verbs c.loop-verb.verb-index Back c.args.word.now c.loop-verb-test.true (cc) ∙ c.loop-verb.invariant
