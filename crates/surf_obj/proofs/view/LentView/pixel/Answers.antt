use Rattle.std.proofs.Common.{◌∙◌, sym, arith, ◌+◌}
use Rattle.surf_obj.specs.View.{view_layout}
use Rattle.surf_obj.specs.LayoutLaws.{get_or-values_in}
use Rattle.surf_obj.proofs.LayoutLemmas.{run-fits}
use Rattle.surf_obj.proofs.view.LentView.pixel.Goals as goal

pub get_value-requires : goal.get_value-requires
get_value-requires c = omega (
  arith,
  run-fits (view_layout c.args.self.now) (c.args.x + 1) c.args.y (omega arith) c.requires.row c.args.self.now.holds.columns,
  c.args.self.now.holds.rows,
  c.row_start.ensures,
)

pub returns-clause-value : goal.returns-clause-value
returns-clause-value c =
    c.get_value.ensures.value ∙ rw c.row_start.ensures
    (sym (get_or-values_in (view_layout c.args.self.now) c.args.self.now.bits.now c.args.x c.args.y c.requires.column c.requires.row))
