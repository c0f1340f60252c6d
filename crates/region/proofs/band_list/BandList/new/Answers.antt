use Rattle.std.proofs.Common.{refl, rules}
use Rattle.region.proofs.KeptLemmas.{kept_none}
use Rattle.region.proofs.band_list.BandList.new.Goals as goal

pub returns-clause-kept : goal.returns-clause-kept
returns-clause-kept c = kept_none (record { rects = c.new.result; ended = 0; count = 0; most = c.args.most }) refl refl (search rules)
