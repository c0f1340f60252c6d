use Rattle.std.specs.Int.Bits.{mask_lt}
use Rattle.rop_mix.proofs.BitLemmas.{word_is_rop3}
use Rattle.rop_mix.proofs.ternary.rop3.Goals as goal

pub returns-clause-fits : goal.returns-clause-fits
returns-clause-fits c = rw c.low_mask.ensures (mask_lt c.choose-5.result c.args.bits)

pub returns-clause-value : goal.returns-clause-value
returns-clause-value c =
    rw (
      c.low_mask.ensures,
      c.choose-5.ensures,
      c.choose-with_pattern.ensures,
      c.choose-without_pattern.ensures,
      c.choose.ensures,
      c.choose-2.ensures,
      c.choose-3.ensures,
      c.choose-4.ensures,
      c.spread.ensures,
      c.spread-2.ensures,
      c.spread-3.ensures,
      c.spread-4.ensures,
      c.spread-5.ensures,
      c.spread-6.ensures,
      c.spread-7.ensures,
      c.spread-8.ensures,
    )
    (word_is_rop3 c.args.code c.args.p c.args.s c.args.d c.args.bits c.ranges.p.fits c.ranges.s.fits c.ranges.d.fits c.requires)
