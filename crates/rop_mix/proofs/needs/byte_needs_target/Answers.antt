use Rattle.rop_mix.proofs.NeedLemmas.{target_test}
use Rattle.rop_mix.proofs.needs.byte_needs_target.Goals as goal

pub returns : goal.returns
returns c = target_test c.args.code c.ranges.code.fits
