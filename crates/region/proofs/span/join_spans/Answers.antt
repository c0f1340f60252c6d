use Rattle.std.proofs.Common.{◌≡◌, ◌∙◌, ℤ, Bool, ◌<ℤ◌, pos, take, get_or, refl, ap, sym, subst, arith, rules, SFits, w32, to_z}
use Rattle.std.proofs.lemmas.Int.{ints, to_z-of_z}
use Rattle.std.proofs.lemmas.List.{take_all}
use Rattle.region.specs.InnerColumns.{IsColumns}
use Rattle.region.specs.Columns.{column, has_column}
use Rattle.region.specs.InnerRuns.{AreRuns}
use Rattle.region.specs.Spans.{in_spans}
use Rattle.region.specs.InnerSpanList.{steps_of}
use Rattle.region.proofs.RunLemmas.{runs_until}
use Rattle.region.proofs.SpanLemmas.{span_is_later, span_runs_more, span_columns, span_points, span_begins, span_ends}
use Rattle.region.proofs.SpanListLemmas.{all_ended}
use Rattle.region.proofs.UniqueLemmas.{on_ok_both}
use Rattle.region.proofs.span.join_spans.Goals.{then-end-span+in_ok-turn, else-end-span}
use Rattle.region.proofs.span.join_spans.Goals as goal

pub loop-span-preserved : goal.loop-span-preserved
loop-span-preserved c =
    let span = get_or c.args.spans.now c.loop-span.span-index (record { left = pos 0; right = pos 0 }) in
    let end = to_z w32 c.loop-span.end-bits in
    let end_fits : SFits w32 end = search rules in
    let left_fits : SFits w32 span.left = search rules in
    let right_fits : SFits w32 span.right = search rules in
    let left = to_z-of_z w32 span.left left_fits in
    let right = to_z-of_z w32 span.right right_fits in
    let set : ℤ → ℤ → Bool = λ y x. in_spans y (take c.loop-span.span-index c.args.spans.now) in
    let later = span_is_later c.args.spans.now c.loop-span.span-index (record { left = pos 0; right = pos 0 }) end (steps_of c.loop-span.row)
    c.loop-span-test.true c.requires left_fits c.loop-span.invariant in
    let before : AreRuns column (λ b. Unit {0}) span.left set (steps_of c.if-end-span.row) = elim c.if-end-span.branch [
      | then-end-span+in_ok-turn w ↦
          let wide : end <ℤ span.left = omega (arith, ints, w.if-end-span.true) in
          subst (λ l. AreRuns column (λ b. Unit {0}) span.left set (steps_of l)) (sym w.row-is)
          (runs_until column (λ b. Unit {0}) end span.left set (steps_of w.turn.new.self)
          (span_ends set end c.loop-span.row w.turn.new.self c.loop-span.invariant.runs end_fits w.in_ok-turn.ensures.steps) wide)
      | else-end-span w ↦
          let same : end ≡ span.left = omega (arith, ints, later, w.if-end-span.false) in
          subst (λ l. AreRuns column (λ b. Unit {0}) span.left set (steps_of l)) (sym w.row-is)
          (subst (λ z. AreRuns column (λ b. Unit {0}) z set (steps_of c.loop-span.row)) same c.loop-span.invariant.runs)
    ] in
    let wide = c.requires.columns c.loop-span.span-index (record { left = pos 0; right = pos 0 }) c.loop-span-test.true in
    let runs = span_begins set span.left span.right c.if-end-span.row c.turn-in-loop-span.new.self before wide left_fits
    (rw left at c.in_ok-turn-2.ensures.steps) in
    rw right (span_runs_more c.args.spans.now c.loop-span.span-index (record { left = pos 0; right = pos 0 }) span.left span.right
    (steps_of c.turn-in-loop-span.new.self) c.loop-span-test.true refl refl runs)

pub returns-clause-columns : goal.returns-clause-columns
returns-clause-columns c =
    let end = to_z w32 c.loop-span.end-bits in
    let fits : SFits w32 end = search rules in
    let set : ℤ → ℤ → Bool = λ y x. in_spans y (take c.loop-span.span-index c.args.spans.now) in
    let new = c.turn-2.new.self in
    on_ok_both _ _ _ c.turn-2.result (λ steps inside. subst IsColumns (all_ended new inside)
    (span_columns set end (steps_of new) (span_ends set end c.loop-span.row new c.loop-span.invariant.runs fits steps)))
    c.turn-2.ensures.steps c.turn-2.ensures.inside

pub returns-clause-points : goal.returns-clause-points
returns-clause-points c =
    let end = to_z w32 c.loop-span.end-bits in
    let fits : SFits w32 end = search rules in
    let set : ℤ → ℤ → Bool = λ y x. in_spans y (take c.loop-span.span-index c.args.spans.now) in
    let new = c.turn-2.new.self in
    on_ok_both _ _ _ c.turn-2.result (λ steps inside x. ap (λ l. has_column l x) (sym (all_ended new inside))
    ∙ span_points set end (steps_of new) (span_ends set end c.loop-span.row new c.loop-span.invariant.runs fits steps) x
    ∙ ap (in_spans x) (take_all c.loop-span.span-index c.args.spans.now c.loop-span-test.false)) c.turn-2.ensures.steps c.turn-2.ensures.inside
