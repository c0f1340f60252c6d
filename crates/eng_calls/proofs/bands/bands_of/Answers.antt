use Rattle.std.proofs.Common.{◌+◌, arith}
use Rattle.geom_base.specs.Points.{no_rect}
use Rattle.eng_calls.proofs.BandLemmas.{bands_more, bands_part}
use Rattle.eng_calls.proofs.bands.bands_of.Goals as goal

pub loop-i-preserved : goal.loop-i-preserved
loop-i-preserved c =
    let more = bands_more c.args.room c.args.rects.now c.loop-i.i no_rect c.loop-i-test.true in
    omega (arith, more, c.in_ok-bands.ensures)

pub returns-in_err-bands : goal.returns-in_err-bands
returns-in_err-bands c =
    let more = bands_more c.args.room c.args.rects.now c.loop-i.i no_rect c.loop-i-test.true in
    let part = bands_part c.args.room c.args.rects.now (c.loop-i.i + 1) in
    rw c.from_residual.ensures (omega (arith, more, part, c.in_err-bands.ensures))
