use Rattle.std.proofs.Common.{ℕ, ◌≡◌, ◌≤◌, ◌<◌, ◌+◌, ◌^◌, ◌⊎◌, get_or}
use Rattle.pix_format.specs.Value.{bits_of}
use Rattle.surf_obj.specs.View.{view_values, view_size, view_format}
use Rattle.geom_base.specs.Grid.{value_at}
use Rattle.surf_obj.proofs.view.LentView.read_each.Given as goal

abbrev pub invariant-loop-i : goal.invariant-loop-i
invariant-loop-i l = record {
  values : (k : ℕ) → l.from ≤ k → k < l.i → get_or l.out k 0 ≡ value_at (view_size l.self) (view_values l.self) (l.x + k) l.y;
  fits : (k : ℕ) → l.from ≤ k → k < l.i → get_or l.out k 0 < 2 ^ bits_of (view_format l.self);
  others : (k : ℕ) → (k < l.from) ⊎ (l.i ≤ k) → get_or l.out k 0 ≡ get_or l.fn.out k 0;
}
