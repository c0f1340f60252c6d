use Rattle.std.proofs.Common.{◌≡◌, Some, rules, subst, get_or, to_z, of_z, w32}
use Rattle.geom_base.specs.Points.{no_rect}
use Rattle.region.specs.InnerCursor.{in_columns, column_next, StaysUntil}
use Rattle.region.proofs.CursorLemmas.{column_stays}
use Rattle.region.proofs.span_cursor.SpanCursorCursor.next.Goals as goal

pub returns-in-len1-up-clause-stays : goal.returns-in-len1-up-clause-stays
returns-in-len1-up-clause-stays c = λ y h.
    let rects = c.args.self.now.rects.now in
    let inside = c.args.self.now.inside in
    let next : column_next rects inside ≡ Some (to_z w32 (of_z w32 (get_or rects 0 no_rect).right)) = search rules in
    subst (StaysUntil (λ z x. in_columns z rects) (λ x. inside) y) next (column_stays y rects inside h)

pub returns-in-len1-up-2-clause-stays : goal.returns-in-len1-up-2-clause-stays
returns-in-len1-up-2-clause-stays c = λ y h.
    let rects = c.args.self.now.rects.now in
    let inside = c.args.self.now.inside in
    let next : column_next rects inside ≡ Some (to_z w32 (of_z w32 (get_or rects 0 no_rect).left)) = search rules in
    subst (StaysUntil (λ z x. in_columns z rects) (λ x. inside) y) next (column_stays y rects inside h)
