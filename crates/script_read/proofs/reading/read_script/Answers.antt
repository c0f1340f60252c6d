use Rattle.std.proofs.Common.{◌≡◌, length, length-append, refl, rules, arith}
use Rattle.std.specs.Option.{option_to_list}
use Rattle.script_read.proofs.ScriptLemmas.{answers_refused, behind_nothing, read_more, lines_end, few_more}
use Rattle.script_read.proofs.KnowsLemmas.{knows_first}
use Rattle.script_read.proofs.MeaningLemmas.{read_lines_can_run, read_nothing, read_on}
use Rattle.script_orders.specs.Live.{first_live}
use Rattle.script_read.specs.State.{first_reader_state}
use Rattle.script_read.proofs.reading.read_script.Goals as goal

pub returns-in-Err-text_line-clause-value : goal.returns-in-Err-text_line-clause-value
returns-in-Err-text_line-clause-value c =
    let count : c.len.result ≡ length c.loop-more.commands.items = search rules in
    let so_far = rw (c.in-Some.is, c.first_line.ensures.lines) at c.loop-more.invariant.read in
    answers_refused _ _ _ _ c.in-Err-text_line.error c.refusal.result so_far (rw count at c.in-Err-text_line.ensures.value) c.refusal.ensures

pub loop-more-init : goal.loop-more-init
loop-more-init c = rw (c.new-commands.ensures.items, c.in-Ok.ensures) (record {
  read = record { place = refl; reads = behind_nothing _ };
  few = omega arith;
  made = read_nothing;
})

pub loop-more-preserved : goal.loop-more-preserved
loop-more-preserved c =
    let count : c.len.result ≡ length c.loop-more.commands.items = search rules in
    let so_far = rw (c.in-Some.is, c.first_line.ensures.lines) at c.loop-more.invariant.read in
    record {
      read = rw c.in-Ok-keep.ensures (read_more _ _ _ _ _ so_far (rw count at c.in-Ok-text_line.ensures.value));
      few = rw c.in-Ok-keep.ensures (few_more _ _ c.loop-more.invariant.few (rw count at c.in-Ok-text_line.ensures.few));
      made = rw (c.in-Ok-keep.ensures, length-append c.loop-more.commands.items (option_to_list c.in-Ok-text_line.asked))
          (read_on _ _ _ c.loop-more.invariant.made c.in-Ok-text_line.ensures.value);
    }

pub returns-clause-value : goal.returns-clause-value
returns-clause-value c =
    let so_far = rw c.in_default.is at c.loop-more.invariant.read in
    rw c.of.ensures (lines_end _ _ _ so_far.reads)

pub returns-clause-can : goal.returns-clause-can
returns-clause-can c =
    let so_far = rw c.in_default.is at c.loop-more.invariant.read in
    let read = lines_end _ _ _ so_far.reads in
    rw c.of.ensures (read_lines_can_run _ _ first_reader_state first_live _ _ knows_first read)
