use Rattle.std.proofs.Common.{map}
use Rattle.geom_base.specs.Points.{moved_rect}
use Rattle.script_read.proofs.RegionLemmas.{tests_within}
use Rattle.script_read.proofs.regions.can_shift.Goals as goal

pub returns-clause-value : goal.returns-clause-value
returns-clause-value c = tests_within c.can_offset.result (map (λ r. moved_rect r c.args.by) c.args.region.now) c.can_offset.ensures.within
