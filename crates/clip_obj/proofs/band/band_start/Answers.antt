use Rattle.std.proofs.Common.{ap, arith, of_z, w32}
use Rattle.clip_obj.proofs.BandLemmas.{none_before}
use Rattle.clip_obj.proofs.band.band_start.Goals as goal

pub returns-then-rects-start-clause-before : goal.returns-then-rects-start-clause-before
returns-then-rects-start-clause-before c = none_before c.args.rects.now c.loop-start.start c.args.place c.requires.in_order (omega arith)
    c.loop-start.invariant.0
    c.requires.place (λ e. c.if-rects-start.true (ap (of_z w32) e))
