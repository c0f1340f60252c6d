use Rattle.std.proofs.Common.{ap, arith, of_z, w32}
use Rattle.clip_obj.proofs.BandLemmas.{none_after}
use Rattle.clip_obj.proofs.band.band_end.Goals as goal

pub returns-then-rects-end-clause-after : goal.returns-then-rects-end-clause-after
returns-then-rects-end-clause-after c = none_after c.args.rects.now c.loop-end.end c.args.place c.requires.in_order (omega arith)
    (λ e. c.if-rects-end.true (ap (of_z w32) e))
