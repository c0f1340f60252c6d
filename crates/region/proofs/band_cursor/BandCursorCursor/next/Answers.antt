use Rattle.std.proofs.Common.{◌≡◌, Some, rules, subst, take, get_or, to_z, of_z, w32}
use Rattle.geom_base.specs.Points.{is_in_some, no_rect}
use Rattle.region.specs.Canonical.{point_from}
use Rattle.region.specs.InnerCursor.{in_columns, row_next, StaysUntil}
use Rattle.region.proofs.CursorLemmas.{row_stays}
use Rattle.region.proofs.band_cursor.BandCursorCursor.next.Goals as goal

pub returns-in-len1-up-clause-stays : goal.returns-in-len1-up-clause-stays
returns-in-len1-up-clause-stays c = λ y h.
    let rects = c.args.self.now.rects.now in
    let here = c.args.self.now.here in
    let next : row_next rects here ≡ Some (to_z w32 (of_z w32 (get_or rects 0 no_rect).top)) = search rules in
    subst (StaysUntil (λ z x. is_in_some (point_from x z) rects) (λ x. in_columns x (take here rects)) y) next (row_stays y rects here h)

pub returns-in-len1-up-2-clause-stays : goal.returns-in-len1-up-2-clause-stays
returns-in-len1-up-2-clause-stays c = λ y h.
    let rects = c.args.self.now.rects.now in
    let here = c.args.self.now.here in
    let next : row_next rects here ≡ Some (to_z w32 (of_z w32 (get_or rects 0 no_rect).bottom)) = search rules in
    subst (StaysUntil (λ z x. is_in_some (point_from x z) rects) (λ x. in_columns x (take here rects)) y) next (row_stays y rects here h)
