use Rattle.std.proofs.Common.{rules}
use Rattle.rop_mix.specs.Needs.{mask_needed}
use Rattle.rop_mix.proofs.needs.needs_mask.Goals as goal

pub returns-clause-value : goal.returns-clause-value
unfolding mask_needed
returns-clause-value c = search rules
