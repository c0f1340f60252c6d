use Rattle.std.proofs.Common.{◌∙◌, sym, refl}
use Rattle.geom_base.specs.Points.{moved_rect}
use Rattle.clip_obj.specs.Clip.{allows, to_origin}
use Rattle.clip_obj.proofs.WithinLemmas.{all_within}
use Rattle.clip_obj.proofs.MovedLemmas.{all_move, all_within_moved, region_seen}
use Rattle.clip_obj.proofs.clip.ClipObj.build_at.Goals as goal

pub all_seen_from-rects-requires : goal.all_seen_from-rects-requires
all_seen_from-rects-requires c = all_move (to_origin c.args.at) c.args.bounds c.in_ok-clipped.clipped.items c.requires
    (all_within c.args.bounds (allows c.args.region) c.in_ok-clipped.clipped.items c.in_ok-clipped.ensures.in_order.points c.in_ok-clipped.ensures.region)

pub begun-requires-clause-canonical : goal.begun-requires-clause-canonical
begun-requires-clause-canonical c = (region_seen c.regions_are_canonical.ensures.moved c.args.region c.args.bounds c.args.at c.in_ok-clipped.clipped.items
    c.all_seen_from-rects.result.items c.all_seen_from-rects.ensures c.in_ok-clipped.ensures.region).canonical

pub begun-requires-clause-in_order : goal.begun-requires-clause-in_order
begun-requires-clause-in_order c = c.regions_are_canonical.ensures.in_order c.all_seen_from-rects.result.items (begun-requires-clause-canonical c)

pub begun-requires-clause-inside : goal.begun-requires-clause-inside
begun-requires-clause-inside c =
    all_within_moved (to_origin c.args.at) c.args.bounds c.seen_from.result c.in_ok-clipped.clipped.items c.all_seen_from-rects.result.items c.seen_from.ensures
    c.all_seen_from-rects.ensures
    (all_within c.args.bounds (allows c.args.region) c.in_ok-clipped.clipped.items c.in_ok-clipped.ensures.in_order.points c.in_ok-clipped.ensures.region)

pub returns-clause-clip : goal.returns-clause-clip
returns-clause-clip c = record {
  bounds = c.begun.ensures.bounds ∙ c.seen_from.ensures;
  rects = region_seen c.regions_are_canonical.ensures.moved c.args.region c.args.bounds c.args.at c.in_ok-clipped.clipped.items
      c.begun.result.rects (c.begun.ensures.rects ∙ c.all_seen_from-rects.ensures) c.in_ok-clipped.ensures.region;
  left = c.begun.ensures.left ∙ sym c.begun.ensures.rects;
}

pub returns-clause-inside : goal.returns-clause-inside
returns-clause-inside c =
    all_within_moved (to_origin c.args.at) c.args.bounds (moved_rect c.args.bounds (to_origin c.args.at)) c.in_ok-clipped.clipped.items
    c.begun.result.rects refl (c.begun.ensures.rects ∙ c.all_seen_from-rects.ensures)
    (all_within c.args.bounds (allows c.args.region) c.in_ok-clipped.clipped.items c.in_ok-clipped.ensures.in_order.points c.in_ok-clipped.ensures.region)
