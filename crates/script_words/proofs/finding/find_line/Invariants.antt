use Rattle.std.proofs.Common.{suc, length}
use Rattle.std.specs.Option.{option_copied, option_map_or}
use Rattle.script_words.specs.Lines.{lines_of, lines_after}
use Rattle.script_words.proofs.FindLemmas.{PassedTo}
use Rattle.script_words.proofs.finding.find_line.Given as goal

abbrev pub invariant-loop-more : goal.invariant-loop-more
invariant-loop-more l = PassedTo l.wanted (lines_of l.text) l.before (lines_after (option_copied l.more))

abbrev pub decreases-loop-more : goal.decreases-loop-more
decreases-loop-more l = option_map_or (λ t. suc (length t.now)) l.more 0
