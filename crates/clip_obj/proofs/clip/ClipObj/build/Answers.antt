use Rattle.std.proofs.Common.{sym, subst}
use Rattle.std.specs.List.{All}
use Rattle.clip_obj.specs.Clip.{allows, LiesWithin}
use Rattle.clip_obj.proofs.WithinLemmas.{all_within}
use Rattle.clip_obj.proofs.clip.ClipObj.build.Goals as goal

pub begun-requires-clause-inside : goal.begun-requires-clause-inside
begun-requires-clause-inside c =
    all_within c.args.bounds (allows c.args.region) c.in_ok-rects.rects.items c.in_ok-rects.ensures.in_order.points c.in_ok-rects.ensures.region

pub returns-clause-inside : goal.returns-clause-inside
returns-clause-inside c = subst (All (LiesWithin c.args.bounds)) (sym c.begun.ensures.rects)
    (all_within c.args.bounds (allows c.args.region) c.in_ok-rects.rects.items c.in_ok-rects.ensures.in_order.points c.in_ok-rects.ensures.region)
