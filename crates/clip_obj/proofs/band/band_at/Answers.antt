use Rattle.clip_obj.specs.InnerBand.{BeginsWith}
use Rattle.clip_obj.proofs.BandLemmas.{joined}
use Rattle.clip_obj.proofs.band.band_at.Goals as goal

pub returns : goal.returns
returns c = record {
  from = c.band_start.ensures.from;
  to = c.band_end.ensures.to;
  within = c.band_end.ensures.within;
  before = c.band_start.ensures.before;
  inside = joined (BeginsWith c.args.rects.now c.args.place) c.args.rects.now c.band_start.result c.args.place c.band_end.result
      c.band_start.ensures.inside c.band_end.ensures.inside;
  after = c.band_end.ensures.after;
}
