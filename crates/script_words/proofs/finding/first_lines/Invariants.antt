use Rattle.std.proofs.Common.{◌≡◌, ◌++◌, ◌≤◌, suc, length, map}
use Rattle.std.specs.Option.{option_copied, option_map_or}
use Rattle.script_words.specs.Lines.{lines_of, lines_after}
use Rattle.script_words.proofs.finding.first_lines.Given as goal

abbrev pub invariant-loop-more : goal.invariant-loop-more
invariant-loop-more l = record {
  whole : map (λ w. w.now) l.lines.items ++ lines_after (option_copied l.more) ≡ lines_of l.text;
  few : length l.lines.items ≤ l.most;
}

abbrev pub decreases-loop-more : goal.decreases-loop-more
decreases-loop-more l = option_map_or (λ t. suc (length t.now)) l.more 0
