use Rattle.std.proofs.Common.{◌≡◌, ◌∙◌, ◌++◌, ◌∷◌, [], ◌<ℤ◌, ap, sym, subst, arith, rules, SFits, w32, to_z, of_z}
use Rattle.std.proofs.lemmas.Int.{ints, to_z-of_z}
use Rattle.region.specs.Columns.{has_column}
use Rattle.region.specs.InnerSpanList.{span_steps}
use Rattle.region.specs.InnerRows.{IsRow}
use Rattle.region.proofs.RowLemmas.{row_later, row_more, row_points, no_span}
use Rattle.region.proofs.span_list.SpanList.add.Goals as goal

wide : (c : goal.In_ok-push) → c.args.left <ℤ c.args.right
wide c = grind (arith, ints, to_z-of_z, c.if-left-right.true)

-- the spans with the new one
more : (c : goal.In_ok-push) → c.push.new.self.items ≡ c.args.self.now.spans.items ++ record { left = c.args.left; right = c.args.right } ∷ []
more c =
    let left : to_z w32 (of_z w32 c.args.left) ≡ c.args.left = search (rules, to_z-of_z) in
    let right : to_z w32 (of_z w32 c.args.right) ≡ c.args.right = search (rules, to_z-of_z) in
    rw c.in_ok-push.was at c.push.ensures.items
    ∙ ap (λ z. c.args.self.now.spans.items ++ record { left = z; right = to_z w32 (of_z w32 c.args.right) } ∷ []) left
    ∙ ap (λ z. c.args.self.now.spans.items ++ record { left = c.args.left; right = z } ∷ []) right

pub returns-in_ok-push-clause-row : goal.returns-in_ok-push-clause-row
returns-in_ok-push-clause-row c = λ z from below.
    let left : SFits w32 c.args.left = search rules in
    let right : SFits w32 c.args.right = search rules in
    subst (IsRow z) (sym (more c)) (row_more c.args.self.now.spans.items (record { left = c.args.left; right = c.args.right }) z c.requires
    (wide c) left right (below (wide c)))

pub returns-in_ok-push-clause-points : goal.returns-in_ok-push-clause-points
returns-in_ok-push-clause-points c = λ x. ap (λ l. has_column (span_steps l) x) (more c)
    ∙ row_points c.args.self.now.spans.items (record { left = c.args.left; right = c.args.right }) c.requires (wide c) x

pub returns-else-left-right-clause-row : goal.returns-else-left-right-clause-row
returns-else-left-right-clause-row c = λ z from below. row_later c.args.left z c.args.self.now.spans.items from c.requires

pub returns-else-left-right-clause-points : goal.returns-else-left-right-clause-points
returns-else-left-right-clause-points c = λ x. no_span x c.args.left c.args.right (has_column (span_steps c.args.self.now.spans.items) x)
    (grind (arith, ints, to_z-of_z, c.if-left-right.false))
