use Rattle.std.proofs.Common.{◌≡◌, ◌∙◌, ap, map, subst}
use Rattle.std.specs.List.{All}
use Rattle.geom_base.specs.Points.{moved_rect, RectMoves}
use Rattle.region.specs.Region.{IsRegion}
use Rattle.clip_obj.specs.Clip.{Clip, to_origin}
use Rattle.clip_obj.proofs.MovedLemmas.{all_move, all_within_moved, list_seen}
use Rattle.clip_obj.proofs.clip.ClipObj.seen_from.Goals as goal

pub all_seen_from-rects-requires : goal.all_seen_from-rects-requires
all_seen_from-rects-requires c =
    let same = c.in_ok-rects.ensures.items ∙ c.deref.ensures.value ∙ ap (λ (k : Clip). k.rects) c.self.view_is in
    rw same (all_move (to_origin c.args.at) c.args.bounds c.args.self.now.rects c.requires.moves c.requires.within)

all_seen : (c : goal.After-seen_from) → c.all_seen_from-rects.result.items ≡ map (λ r. moved_rect r (to_origin c.args.at)) c.args.self.now.rects
all_seen c =
    c.all_seen_from-rects.ensures
    ∙ ap (map (λ r. moved_rect r (to_origin c.args.at))) (c.in_ok-rects.ensures.items ∙ c.deref.ensures.value ∙ ap (λ (k : Clip). k.rects) c.self.view_is)

pub begun-requires-clause-canonical : goal.begun-requires-clause-canonical
begun-requires-clause-canonical c =
    list_seen c.regions_are_canonical.ensures.moved c.args.self.now.rects c.all_seen_from-rects.result.items c.args.at (all_seen c)
    (subst IsRegion (ap (λ (k : Clip). k.rects) c.self.view_is) c.self.invariant.0)

pub begun-requires-clause-in_order : goal.begun-requires-clause-in_order
begun-requires-clause-in_order c = c.regions_are_canonical.ensures.in_order c.all_seen_from-rects.result.items (begun-requires-clause-canonical c)

pub begun-requires-clause-inside : goal.begun-requires-clause-inside
begun-requires-clause-inside c = all_within_moved (to_origin c.args.at) c.args.bounds c.seen_from.result c.args.self.now.rects
    c.all_seen_from-rects.result.items c.seen_from.ensures (all_seen c) c.requires.within

pub returns-clause-rects : goal.returns-clause-rects
returns-clause-rects c = c.begun.ensures.rects ∙ all_seen c.before
