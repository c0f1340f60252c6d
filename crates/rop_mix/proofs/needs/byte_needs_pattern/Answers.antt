use Rattle.rop_mix.proofs.NeedLemmas.{pattern_test}
use Rattle.rop_mix.proofs.needs.byte_needs_pattern.Goals as goal

pub returns : goal.returns
returns c = pattern_test c.args.code c.ranges.code.fits
