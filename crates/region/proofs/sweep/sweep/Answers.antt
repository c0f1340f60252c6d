use Rattle.std.proofs.Common.{◌≡◌, ◌∙◌, [], refl, sym, subst, arith, rules, SFits, w32, to_z, of_z, Some}
use Rattle.std.specs.Int.{int_min}
use Rattle.std.proofs.lemmas.Int.{ints, clamps, to_z-of_z}
use Rattle.region.specs.Operation.{holds_after}
use Rattle.region.specs.InnerCursor.{StaysUntil}
use Rattle.region.specs.InnerSweep.{both, both_now}
use Rattle.region.proofs.UniqueLemmas.{nothing_twice}
use Rattle.region.proofs.SweepLemmas.{are_deciders, swept_start, swept_takes, swept_turn, swept_end}
use Rattle.region.proofs.sweep.sweep.Goals as goal

pub loop-place-init : goal.loop-place-init
loop-place-init g c =
    let a = c.requires.left in
    let b = c.requires.right in
    let place = int_min a.place b.place in (
      refl,
      record {
        place = place;
        steps = [];
        put = c.requires.nothing_yet;
        left_at = a.stands place (omega (arith, ints, clamps));
        right_at = b.stands place (omega (arith, ints, clamps));
        swept = swept_start g.O.Output.holds g.O.Output.is_valid g.O.Output.empty (holds_after c.args.operation) (g.C.Cursor.set c.args.a)
            (g.C.Cursor.set c.args.b) (g.C.Cursor.now c.args.a) (g.C.Cursor.now c.args.b) place (nothing_twice c.args.operation) c.requires.nothing
            (λ z x h. a.nothing z x (omega (arith, ints, clamps, h))) (λ z x h. b.nothing z x (omega (arith, ints, clamps, h)))
            a.now_nothing b.now_nothing;
      },
    )

pub go_to-requires : goal.go_to-requires
go_to-requires g c =
    let place : to_z w32 (of_z w32 c.in-Some.place) ≡ c.in-Some.place = search (rules, to_z-of_z) in
    let i = c.loop-place.invariant.1 in
    let stays = subst (StaysUntil _ _ i.place) c.in-Some.is (c.next_place.ensures.stays (holds_after c.args.operation) i.place (nothing_twice c.args.operation)
    (are_deciders c.args.operation c.left_decider.result c.right_decider.result _ _ c.left_decider.ensures c.right_decider.ensures) i.left_at i.right_at) in
    (i.place, i.left_at, omega (arith, ints, place, stays.0))

pub go_to-requires-in-Some : goal.go_to-requires-in-Some
go_to-requires-in-Some g c =
    let place : to_z w32 (of_z w32 c.in-Some.place) ≡ c.in-Some.place = search (rules, to_z-of_z) in
    let i = c.loop-place.invariant.1 in
    let stays = subst (StaysUntil _ _ i.place) c.in-Some.is (c.next_place.ensures.stays (holds_after c.args.operation) i.place (nothing_twice c.args.operation)
    (are_deciders c.args.operation c.left_decider.result c.right_decider.result _ _ c.left_decider.ensures c.right_decider.ensures) i.left_at i.right_at) in
    (i.place, i.right_at, omega (arith, ints, place, stays.0))

pub put-requires-clause-steps : goal.put-requires-clause-steps
put-requires-clause-steps g c =
    let place : to_z w32 (of_z w32 c.in-Some.place) ≡ c.in-Some.place = search (rules, to_z-of_z) in
    let i = c.loop-place.invariant.1 in
    let stays = subst (StaysUntil _ _ i.place) c.in-Some.is (c.next_place.ensures.stays (holds_after c.args.operation) i.place (nothing_twice c.args.operation)
    (are_deciders c.args.operation c.left_decider.result c.right_decider.result _ _ c.left_decider.ensures c.right_decider.ensures) i.left_at i.right_at) in
    (i.steps, i.put, swept_takes (to_z w32 (of_z w32 c.in-Some.place)) (omega (arith, ints, place, stays.0)) i.swept)

pub loop-place-preserved : goal.loop-place-preserved
loop-place-preserved g c =
    let fits : SFits w32 c.in-Some.place = search rules in
    let place : to_z w32 (of_z w32 c.in-Some.place) ≡ c.in-Some.place = search (rules, to_z-of_z) in
    let at = to_z w32 (of_z w32 c.in-Some.place) in
    let i = c.loop-place.invariant.1 in
    let stays = subst (StaysUntil _ _ i.place) c.in-Some.is (c.next_place.ensures.stays (holds_after c.args.operation) i.place (nothing_twice c.args.operation)
    (are_deciders c.args.operation c.left_decider.result c.right_decider.result _ _ c.left_decider.ensures c.right_decider.ensures) i.left_at i.right_at) in
    let op = holds_after c.args.operation in
    let now = both_now op (g.C.Cursor.now c.loop-place.left) (g.C.Cursor.now c.loop-place.right) in
    let there = subst (λ z. StaysUntil (both op (g.C.Cursor.set c.loop-place.left) (g.C.Cursor.set c.loop-place.right)) now i.place (Some z)) (sym place) stays in
    let put = c.in_ok-put.ensures.put i.steps i.put (swept_takes at there.0 i.swept) in (
      c.in_ok-put.ensures.limit ∙ c.loop-place.invariant.0,
      record {
        place = at;
        steps = put.0;
        put = put.1;
        left_at = c.go_to.ensures.at;
        right_at = c.go_to-in-Some.ensures.at;
        swept = swept_turn (g.C.Cursor.set c.go_to.new.self) (g.C.Cursor.set c.go_to-in-Some.new.self) (g.C.Cursor.now c.go_to.new.self)
            (g.C.Cursor.now c.go_to-in-Some.new.self) at put.0 i.swept there (subst (SFits w32) (sym place) fits) c.go_to.ensures.rest
            c.go_to-in-Some.ensures.rest put.2;
      },
    )

pub returns-clause-steps : goal.returns-clause-steps
returns-clause-steps g c =
    let i = c.loop-place.invariant.1 in
    let op = holds_after c.args.operation in
    let stays = c.next_place.ensures.stays op i.place (nothing_twice c.args.operation)
    (are_deciders c.args.operation c.left_decider.result c.right_decider.result _ _ c.left_decider.ensures c.right_decider.ensures) i.left_at i.right_at in
    (i.steps, i.put, swept_end i.swept (subst (StaysUntil _ _ i.place) c.in_default.is stays))

pub returns-clause-limit : goal.returns-clause-limit
returns-clause-limit g c = c.loop-place.invariant.0
