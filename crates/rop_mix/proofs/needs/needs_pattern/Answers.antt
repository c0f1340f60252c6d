use Rattle.rop_mix.proofs.NeedLemmas.{pattern_need, pattern_needed-first, pattern_needed-second, rop4_of-any_pattern}
use Rattle.rop_mix.proofs.needs.needs_pattern.Goals as goal

pub returns-then-byte_needs_pattern-clause-value : goal.returns-then-byte_needs_pattern-clause-value
returns-then-byte_needs_pattern-clause-value c = cc (pattern_needed-first c.args.rop.code (cc))

pub returns-then-byte_needs_pattern-clause-need : goal.returns-then-byte_needs_pattern-clause-need
returns-then-byte_needs_pattern-clause-need c = pattern_need _ c.args.rop.code (cc (pattern_needed-first c.args.rop.code (cc)))

pub returns-else-byte_needs_pattern-clause-value : goal.returns-else-byte_needs_pattern-clause-value
returns-else-byte_needs_pattern-clause-value c = cc (pattern_needed-second c.args.rop.code (cc))

pub returns-else-byte_needs_pattern-clause-need : goal.returns-else-byte_needs_pattern-clause-need
returns-else-byte_needs_pattern-clause-need c = pattern_need _ c.args.rop.code (cc (pattern_needed-second c.args.rop.code (cc)))

pub returns-else-byte_needs_pattern-clause-spared : goal.returns-else-byte_needs_pattern-clause-spared
returns-else-byte_needs_pattern-clause-spared c none m p q s d bits = rop4_of-any_pattern c.args.rop.code m p q s d bits
    (cc (pattern_needed-second c.args.rop.code (cc), none))
