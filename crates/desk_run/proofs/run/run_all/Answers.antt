use Rattle.std.proofs.Common.{◌∙◌, sym, refl, ap, [], ◌∷◌, Bool, ◌||◌}
use Rattle.std.proofs.Math.Bool.{and-true, or-false, or-true}
use Rattle.desk_io.specs.SinkLaws.{puts_as}
use Rattle.desk_shelf.specs.Shelf.{others_same, others_then}
use Rattle.desk_span.specs.Kept.{ScreenKept, live_in}
use Rattle.desk_run.proofs.HistoryLemmas.{carried_at, driver_at, fault_told, finished, halted_at, more, not_whole, nothing_done, others_at, serves_at, so_far_more, stopped_in, unfinished}
use Rattle.desk_run.proofs.LiveLemmas.{can_rest, run_next}
use Rattle.desk_run.proofs.run.run_all.Goals.{in-Whole, in-Wanting, in-Faulted}
use Rattle.desk_run.proofs.run.run_all.Goals as goal

pub loop-i-init : goal.loop-i-init
loop-i-init g c = record {
  script = refl;
  can = rw c.commands-commands.ensures c.requires.can;
  others = others_same _ _;
  so_far = ([], nothing_done _ _ _ _ _ _ c.requires.serves);
}

pub carry_out-requires-clause-place : goal.carry_out-requires-clause-place
carry_out-requires-clause-place g c =
    let (h, so) = c.loop-i.invariant.so_far in
    rw (ap (λ (w : ScreenKept). w.place) so.history.screen, c.loop-i.invariant.others.count) c.requires.place

pub carry_out-requires-clause-serves : goal.carry_out-requires-clause-serves
carry_out-requires-clause-serves g c =
    let (h, so) = c.loop-i.invariant.so_far in
    serves_at _ _ _ _ (sym (ap (λ (w : ScreenKept). w.place) so.history.screen)) so.history.serves

pub carry_out-requires-clause-can : goal.carry_out-requires-clause-can
carry_out-requires-clause-can g c =
    (run_next (live_in c.loop-i.run.desk) c.commands-commands.result.now c.loop-i.i _ c.loop-i.invariant.can c.loop-i-test.true c.index-commands-i.is).0

pub returns-in-Lacking : goal.returns-in-Lacking
returns-in-Lacking g c =
    let (h, so) = c.loop-i.invariant.so_far in
    let here = ap (λ (w : ScreenKept). w.place) so.history.screen in
    let (makes, same, driver, still, count) = c.in-Lacking.ensures.came in
    record {
      ran = (h, rw (← c.commands-commands.ensures) (halted_at so c.index-commands-i.result c.loop-i-test.true c.index-commands-i.is makes same (driver_at _ _ _ _ here driver) still count));
      others = others_then _ _ _ _ c.loop-i.invariant.others (others_at _ _ here c.in-Lacking.ensures.others);
    }

pub returns-in-Broken : goal.returns-in-Broken
returns-in-Broken g c =
    let (h, so) = c.loop-i.invariant.so_far in
    let here = ap (λ (w : ScreenKept). w.place) so.history.screen in
    let (told, one) = (rw c.loop-i.invariant.script at c.in-Broken.ensures.came) in
    let command = c.index-commands-i.result in
    record {
      ran = (
        more h command told,
        rw (← c.commands-commands.ensures) (stopped_in so command c.loop-i-test.true c.index-commands-i.is told
            (carried_at _ _ _ _ _ _ _ _ _ _ here one)),
      );
      others = others_then _ _ _ _ c.loop-i.invariant.others (others_at _ _ here c.in-Broken.ensures.others);
    }

pub loop-i-preserved : goal.loop-i-preserved
loop-i-preserved g c =
    let (h, so) = c.loop-i.invariant.so_far in
    let here = ap (λ (w : ScreenKept). w.place) so.history.screen in
    let command = c.index-commands-i.result in
    let whole = c.match-carry_out.whole in
    let fault = c.match-carry_out.fault in
    let next = (run_next (live_in c.loop-i.run.desk) c.commands-commands.result.now c.loop-i.i command c.loop-i.invariant.can c.loop-i-test.true
    c.index-commands-i.is).1 in
    record {
      script = elim c.match-carry_out.branch [
        | in-Whole w ↦ w.in-Whole.ensures.script ∙ c.loop-i.invariant.script
        | in-Wanting w ↦ w.in-Wanting.ensures.script ∙ c.loop-i.invariant.script
        | in-Faulted w ↦ w.in-Faulted.ensures.script ∙ c.loop-i.invariant.script
      ];
      can = elim c.match-carry_out.branch [
        | in-Whole w ↦ can_rest command [] _ _ _ _ _ w.in-Whole.ensures.came.carries next
        | in-Wanting w ↦ let (t, rest, none, one) = w.in-Wanting.ensures.came in can_rest command (t ∷ rest) _ _ _ _ _ one.carries next
        | in-Faulted w ↦ let (told, some, one) = w.in-Faulted.ensures.came in can_rest command told _ _ _ _ _ one.carries next
      ];
      others = elim c.match-carry_out.branch [
        | in-Whole w ↦ others_then _ _ _ _ c.loop-i.invariant.others (others_at _ _ here w.in-Whole.ensures.others)
        | in-Wanting w ↦ others_then _ _ _ _ c.loop-i.invariant.others (others_at _ _ here w.in-Wanting.ensures.others)
        | in-Faulted w ↦ others_then _ _ _ _ c.loop-i.invariant.others (others_at _ _ here w.in-Faulted.ensures.others)
      ];
      so_far = elim c.match-carry_out.branch [
        | in-Whole w ↦ let one = (rw c.loop-i.invariant.script at w.in-Whole.ensures.came) in (
          more h command [],
          so_far_more so command c.loop-i-test.true c.index-commands-i.is [] whole fault (w.whole-is ∙ sym (and-true c.loop-i.whole))
              (w.fault-is ∙ sym (or-false c.loop-i.fault)) (carried_at _ _ _ _ _ _ _ _ _ _ here one),
        )
        | in-Wanting w ↦ let (t, rest, none, one) = (rw c.loop-i.invariant.script at w.in-Wanting.ensures.came) in (
          more h command (t ∷ rest),
          so_far_more so command c.loop-i-test.true c.index-commands-i.is (t ∷ rest) whole fault
              (w.whole-is ∙ not_whole c.loop-i.whole (t ∷ rest) (λ e. cc))
              (w.fault-is ∙ sym (or-false c.loop-i.fault) ∙ ap (λ (f : Bool). c.loop-i.fault || f) (sym none)) (carried_at _ _ _ _ _ _ _ _ _ _ here one),
        )
        | in-Faulted w ↦ let (told, some, one) = (rw c.loop-i.invariant.script at w.in-Faulted.ensures.came) in (
          more h command told,
          so_far_more so command c.loop-i-test.true c.index-commands-i.is told whole fault
              (w.whole-is ∙ not_whole c.loop-i.whole told (fault_told told some))
              (w.fault-is ∙ sym (or-true c.loop-i.fault) ∙ ap (λ (f : Bool). c.loop-i.fault || f) (sym some)) (carried_at _ _ _ _ _ _ _ _ _ _ here one),
        )
      ];
    }

pub returns-in-Ok : goal.returns-in-Ok
returns-in-Ok g c =
    let (h, so) = c.loop-i.invariant.so_far in
    let ran = finished so c.loop-i-test.false (puts_as _ _ _ _ _ _ _ c.in-Ok.ensures (c.as_slice.ensures.value ∙ c.end_line-last.ensures)) refl in
    record { ran = (h, rw (← c.commands-commands.ensures, c.ended_of.ensures) ran); others = c.loop-i.invariant.others }

pub returns-in-Err : goal.returns-in-Err
returns-in-Err g c =
    let (h, so) = c.loop-i.invariant.so_far in
    let ran = unfinished so c.loop-i-test.false (puts_as _ _ _ _ _ _ _ c.in-Err.ensures (c.as_slice.ensures.value ∙ c.end_line-last.ensures)) refl in
    record { ran = (h, rw (← c.commands-commands.ensures) ran); others = c.loop-i.invariant.others }
