use Rattle.rop_mix.proofs.NeedLemmas.{target_needed-first, target_needed-second, rop4_of-any_target}
use Rattle.rop_mix.proofs.needs.needs_target.Goals as goal

pub returns-then-byte_needs_target-clause-value : goal.returns-then-byte_needs_target-clause-value
returns-then-byte_needs_target-clause-value c = cc (target_needed-first c.args.rop.code (cc))

pub returns-else-byte_needs_target-clause-value : goal.returns-else-byte_needs_target-clause-value
returns-else-byte_needs_target-clause-value c = cc (target_needed-second c.args.rop.code (cc))

pub returns-else-byte_needs_target-clause-spared : goal.returns-else-byte_needs_target-clause-spared
returns-else-byte_needs_target-clause-spared c none m p s d e bits = rop4_of-any_target c.args.rop.code m p s d e bits
    (cc (target_needed-second c.args.rop.code (cc), none))
