use Rattle.std.proofs.Common.{◌<ℤ◌, sym, subst}
use Rattle.std.specs.List.{All}
use Rattle.region.proofs.CursorLemmas.{sorted_by_right}
use Rattle.region.proofs.search.past.Goals as goal

pub count_until-requires : goal.count_until-requires
count_until-requires c = sorted_by_right c.args.band.now c.requires

pub returns : goal.returns
returns c = record {
  passed = c.count_until.result;
  is = c.split_at.ensures.back;
  ended = c.count_until.ensures.before;
  ahead = subst (All (λ r. c.args.place.now <ℤ r.right)) (sym c.split_at.ensures.back) c.count_until.ensures.later;
}
