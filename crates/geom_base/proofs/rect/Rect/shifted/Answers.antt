use Rattle.std.proofs.Common.{arith}
use Rattle.std.proofs.lemmas.Int.{ints}
use Rattle.geom_base.specs.Points.{moved_rect}
use Rattle.geom_base.specs.PointLaws.{IsIn-moved, same_edges}
use Rattle.geom_base.proofs.rect.Rect.shifted.Goals as goal

pub returns-clause-edges : goal.returns-clause-edges
returns-clause-edges c = same_edges _ (moved_rect c.args.self c.args.by) (omega (arith, ints)) (omega (arith, ints)) (omega (arith, ints)) (omega (arith, ints))

pub returns-clause-points : goal.returns-clause-points
returns-clause-points c = IsIn-moved c.args.self _ c.args.by (omega (arith, ints)) (omega (arith, ints)) (omega (arith, ints)) (omega (arith, ints))
