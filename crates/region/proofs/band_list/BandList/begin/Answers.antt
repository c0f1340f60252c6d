use Rattle.std.proofs.Common.{◌≡◌, ◌∙◌, ◌≤◌, ◌<◌, ◌+◌, ◌++◌, ◌∷◌, [], ℤ, pos, get_or, append_assoc, subst, sym, ap, map, length, take, drop, rules, w32, to_z, of_z, arith}
use Rattle.std.proofs.lemmas.Int.{to_z-of_z}
use Rattle.std.proofs.lemmas.List.{take_all}
use Rattle.geom_base.specs.declared.rect.Rect.{Rect}
use Rattle.region.specs.declared.span.Span.{Span}
use Rattle.region.specs.Spans.{rects_of_spans}
use Rattle.region.specs.InnerBandList.{ended_at}
use Rattle.region.proofs.KeptLemmas.{begun_ended, HasBegun, counted_more, counted_room, kept_more, rects_next}
use Rattle.region.proofs.band_list.BandList.begin.Goals as goal

pub add-requires : goal.add-requires
add-requires c =
    let b = c.requires.bands in
    subst (λ n. n + length c.args.spans.now < 18446744073709551616) (sym c.end.ensures.count)
    (counted_room c.args.self.now b.0 c.args.place c.args.spans.now b.1 b.2 c.requires.columns (search rules))

pub loop-span-preserved : goal.loop-span-preserved
loop-span-preserved c =
    let pushed = rw c.in_ok-push.was at c.push.ensures.items in
    let none : Span = record { left = pos 0; right = pos 0 } in
    let s : Span = get_or c.args.spans.now c.loop-span.span-index none in
    let left : to_z w32 (of_z w32 s.left) ≡ s.left = search (rules, to_z-of_z) in
    let right : to_z w32 (of_z w32 s.right) ≡ s.right = search (rules, to_z-of_z) in
    let row = to_z w32 (of_z w32 c.args.place) in
    let added = c.add.new.self.rects.items in
    let before = rects_of_spans row row (take c.loop-span.span-index c.args.spans.now) in
    let rect : ℤ → ℤ → Rect = λ x z. record { left = x; top = row; right = z; bottom = row } in (
      pushed
          ∙ ap (λ z. c.loop-span.self.rects.items ++ rect z (to_z w32 (of_z w32 s.right)) ∷ []) left
          ∙ ap (λ z. c.loop-span.self.rects.items ++ rect s.left z ∷ []) right
          ∙ ap (λ l. l ++ rect s.left s.right ∷ []) c.loop-span.invariant.0
          ∙ append_assoc added before (rect s.left s.right ∷ [])
          ∙ ap (λ l. added ++ l) (sym (rects_next row row c.args.spans.now c.loop-span.span-index none c.loop-span-test.true)),
      c.loop-span.invariant.1,
      c.loop-span.invariant.2,
      c.loop-span.invariant.3,
    )

-- what the body did
begun : (c : goal.After-loop-span) → HasBegun c.args.self.now c.loop-span.self c.args.place c.args.spans.now c.add.new.self.rects.items
begun c =
    let place : to_z w32 (of_z w32 c.args.place) ≡ c.args.place = search (rules, to_z-of_z) in
    let old = c.args.self.now in
    let added = c.add.new.self.rects.items in
    let count = c.loop-span.invariant.2 ∙ c.add.ensures.count ∙ ap (λ n. n + length c.args.spans.now) c.end.ensures.count in
    record {
      count = count;
      most = c.loop-span.invariant.3 ∙ c.add.ensures.most ∙ c.end.ensures.most;
      items = c.loop-span.invariant.0 ∙ ap (λ z. added ++ rects_of_spans z z (take c.loop-span.span-index c.args.spans.now)) place
          ∙ ap (λ l. added ++ rects_of_spans c.args.place c.args.place l) (take_all c.loop-span.span-index c.args.spans.now (omega arith));
      ended = c.loop-span.invariant.1 ∙ begun_ended old c.end.new.self c.add.new.self _ (length c.args.spans.now) c.requires.bands.1.within
          c.end.ensures.rects c.end.ensures.ended c.add.ensures.few c.add.ensures.many;
      few = λ few. (c.add.ensures.few (subst (λ n. c.end.new.self.count + length c.args.spans.now ≤ n) (sym c.end.ensures.most)
          (omega (arith, count, few, c.end.ensures.count)))).0 ∙ c.end.ensures.rects
          ∙ ap (λ z. take old.ended old.rects.items ++ map (ended_at z) (drop old.ended old.rects.items)) place;
    }

pub returns-clause-counted : goal.returns-clause-counted
returns-clause-counted c = λ bands k taken. counted_more c.args.self.now c.loop-span.self bands c.args.place c.args.spans.now c.add.new.self.rects.items (begun c) k

pub returns-clause-kept : goal.returns-clause-kept
returns-clause-kept c = λ bands k taken. kept_more c.args.self.now c.loop-span.self bands c.args.place c.args.spans.now c.add.new.self.rects.items (begun c) k
