use Rattle.std.proofs.Common.{◌+◌, ◌≤◌, suc, length}
use Rattle.std.specs.Option.{option_copied, option_map_or}
use Rattle.script_words.specs.Lines.{lines_of, lines_after}
use Rattle.script_orders.specs.Limits.{most_commands}
use Rattle.script_read.specs.InnerReading.{state_of}
use Rattle.script_read.specs.State.{first_reader_state}
use Rattle.script_read.specs.Reading.{read_lines}
use Rattle.script_read.proofs.MeaningLemmas.{HasRead}
use Rattle.script_read.proofs.ScriptLemmas.{ReadTo}
use Rattle.script_read.proofs.reading.read_script.Given as goal

abbrev pub invariant-loop-more : goal.invariant-loop-more
invariant-loop-more l = record {
  read : ReadTo (read_lines l.first 0 first_reader_state (lines_of l.text)) (l.first + length (lines_of l.text)) l.number
      (length (lines_after (option_copied l.more))) l.commands.items
      (read_lines l.number (length l.commands.items) (state_of l.reader) (lines_after (option_copied l.more)));
  few : length l.commands.items ≤ most_commands;
  made : HasRead (state_of l.reader) (length l.commands.items);
}

abbrev pub decreases-loop-more : goal.decreases-loop-more
decreases-loop-more l = option_map_or (λ t. suc (length t.now)) l.more 0
