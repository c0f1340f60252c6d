use Rattle.std.proofs.Common.{refl}
use Rattle.region.proofs.KeptLemmas.{kept_alike}
use Rattle.region.proofs.band_list.BandList.reserve.Goals as goal

pub returns-clause-kept : goal.returns-clause-kept
returns-clause-kept c = λ bands k. kept_alike c.args.self.now (record { rects = c.reserve.new.self; ended = c.args.self.now.ended; count = c.args.self.now.count; most = c.args.self.now.most })
    bands c.reserve.ensures.items refl refl refl k
