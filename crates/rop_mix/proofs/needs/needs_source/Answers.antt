use Rattle.rop_mix.proofs.NeedLemmas.{source_need, source_needed-first, source_needed-second, rop4_of-any_source}
use Rattle.rop_mix.proofs.needs.needs_source.Goals as goal

pub returns-then-byte_needs_source-clause-value : goal.returns-then-byte_needs_source-clause-value
returns-then-byte_needs_source-clause-value c = cc (source_needed-first c.args.rop.code (cc))

pub returns-then-byte_needs_source-clause-need : goal.returns-then-byte_needs_source-clause-need
returns-then-byte_needs_source-clause-need c = source_need _ c.args.rop.code (cc (source_needed-first c.args.rop.code (cc)))

pub returns-else-byte_needs_source-clause-value : goal.returns-else-byte_needs_source-clause-value
returns-else-byte_needs_source-clause-value c = cc (source_needed-second c.args.rop.code (cc))

pub returns-else-byte_needs_source-clause-need : goal.returns-else-byte_needs_source-clause-need
returns-else-byte_needs_source-clause-need c = source_need _ c.args.rop.code (cc (source_needed-second c.args.rop.code (cc)))

pub returns-else-byte_needs_source-clause-spared : goal.returns-else-byte_needs_source-clause-spared
returns-else-byte_needs_source-clause-spared c none m p s t d bits = rop4_of-any_source c.args.rop.code m p s t d bits
    (cc (source_needed-second c.args.rop.code (cc), none))
