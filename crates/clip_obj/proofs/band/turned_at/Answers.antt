use Rattle.std.proofs.Common.{sym}
use Rattle.clip_obj.proofs.BandLemmas.{turned_place, band_of_all}
use Rattle.clip_obj.proofs.band.turned_at.Goals as goal

pub returns-clause-rect : goal.returns-clause-rect
returns-clause-rect c = sym (turned_place c.args.rects.now c.band_at.result c.args.place c.band_at.ensures)

pub returns-clause-band : goal.returns-clause-band
returns-clause-band c = band_of_all c.args.rects.now c.band_at.result c.args.place c.band_at.ensures
