use Rattle.std.proofs.Common.{◌≤ℤ◌, ℤ, pos, List}
use Rattle.geom_base.specs.declared.rect.Rect.{Rect}
use Rattle.region.specs.Builder.{HasRows}
use Rattle.region_tests.proofs.rows_in_pairs.Given as goal

abbrev pub invariant-loop-i : goal.invariant-loop-i
invariant-loop-i l = (pushed : List Rect) × (end : ℤ) × HasRows pushed end l.builder × (end ≤ℤ pos l.i)
