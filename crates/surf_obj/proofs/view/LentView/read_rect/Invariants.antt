use Rattle.std.proofs.Common.{◌≡◌, ◌<◌, ◌*◌, ◌^◌, ℕ, get_or}
use Rattle.geom_base.specs.Grid.{value_at, value_of_point}
use Rattle.geom_base.specs.Points.{moved, point_at, width_of, sides_of, corner_of}
use Rattle.pix_format.specs.Value.{bits_of}
use Rattle.surf_obj.specs.View.{view_values, view_size, view_format}
use Rattle.surf_obj.proofs.view.LentView.read_rect.Given as goal

abbrev pub invariant-loop-row : goal.invariant-loop-row
invariant-loop-row l = record {
  values : (x y : ℕ) → x < width_of l.rect → y < l.row →
      value_at (sides_of l.rect) l.out x y ≡ value_of_point (view_size l.self) (view_values l.self) (moved (point_at x y) (corner_of l.rect));
  fits : (k : ℕ) → k < l.row * l.width → get_or l.out k 0 < 2 ^ bits_of (view_format l.self);
}
