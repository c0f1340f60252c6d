use Rattle.std.proofs.Common.{◌&&◌, [], ◌∷◌, length}
use Rattle.region.specs.InnerCursor.{in_columns}
use Rattle.region.specs.InnerRows.{IsCutting}
use Rattle.region.proofs.two_bands.add_within.Given as goal

abbrev pub invariant-loop-rest : goal.invariant-loop-rest
invariant-loop-rest l = IsCutting (λ x. in_columns x l.band && in_columns x (l.bounds ∷ [])) l.bounds l.rest l.row.spans.items

abbrev pub decreases-loop-rest : goal.decreases-loop-rest
decreases-loop-rest l = length l.rest
