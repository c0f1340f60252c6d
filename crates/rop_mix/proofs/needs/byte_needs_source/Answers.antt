use Rattle.rop_mix.proofs.NeedLemmas.{source_test}
use Rattle.rop_mix.proofs.needs.byte_needs_source.Goals as goal

pub returns : goal.returns
returns c = source_test c.args.code c.ranges.code.fits
