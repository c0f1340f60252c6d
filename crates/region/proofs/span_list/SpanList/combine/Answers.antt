use Rattle.std.proofs.Common.{◌∙◌, false, ap, sym, subst}
use Rattle.region.specs.Operation.{holds_after}
use Rattle.region.specs.Columns.{column}
use Rattle.region.specs.InnerCursor.{in_columns}
use Rattle.region.specs.InnerSweep.{both, AreStepsOf}
use Rattle.region.proofs.UniqueLemmas.{on_ok_also}
use Rattle.region.proofs.SpanListLemmas.{row_has_columns, row_points}
use Rattle.region.proofs.span_list.SpanList.combine.Goals as goal

pub returns-in-Xor-clause-columns : goal.returns-in-Xor-clause-columns
returns-in-Xor-clause-columns c =
    let set = both (holds_after c.args.operation) (λ y x. in_columns y c.new.result.rects.now) (λ y x. in_columns y c.new-in-Xor.result.rects.now) in
    on_ok_also _ _ c.sweep.result (λ s. row_has_columns c.sweep.new.out set (subst (AreStepsOf column (λ b. Unit {0}) false set) (sym s.1) s.2))
    c.sweep.ensures.steps

pub returns-in-Xor-clause-points : goal.returns-in-Xor-clause-points
returns-in-Xor-clause-points c =
    let set = both (holds_after c.args.operation) (λ y x. in_columns y c.new.result.rects.now) (λ y x. in_columns y c.new-in-Xor.result.rects.now) in
    on_ok_also _ _ c.sweep.result (λ s x. row_points c.sweep.new.out set (subst (AreStepsOf column (λ b. Unit {0}) false set) (sym s.1) s.2) x
    ∙ ap (λ l. holds_after c.args.operation (in_columns x l) (in_columns x c.new-in-Xor.result.rects.now)) c.new.ensures.rects
    ∙ ap (λ l. holds_after c.args.operation (in_columns x c.args.left.now) (in_columns x l)) c.new-in-Xor.ensures.rects)
    c.sweep.ensures.steps
