use Rattle.std.proofs.Common.{◌∙◌, ◌≤◌, length, ap, sym, subst, rules, get_or, SFits, w32, to_z, of_z}
use Rattle.std.proofs.lemmas.Int.{to_z-of_z}
use Rattle.std.proofs.lemmas.Bool.{false≢true}
use Rattle.std.specs.List.{All}
use Rattle.geom_base.specs.Points.{no_rect}
use Rattle.region.specs.InnerEdges.{IsOver}
use Rattle.region.specs.InnerScan.{IsNextRow, HasBothEdges, IsScannedInto}
use Rattle.region.proofs.ScanTurnLemmas.{turn_of, first_edges, into_none, into_seen, into_same, into_new, into_room, into_columns, into_counted, into_falls, into_all}
use Rattle.region.proofs.scan.scanned_bands.Goals as goal

pub over-requires-clause-two : goal.over-requires-clause-two
over-requires-clause-two c =
    let sorted = c.in_ok-sorted.sorted.items in
    let both = subst (All (HasBothEdges c.in_ok-edges.edges.items)) c.deref.ensures.value c.in_ok-edges.ensures.edges in
    let some = subst (λ l. 1 ≤ length l) c.as_slice.ensures.value c.in-len1-up.len_at_least in
    subst (λ l. 2 ≤ length l) (sym c.deref-2.ensures.value) (first_edges c.args.rects.now sorted c.in_ok-edges.edges.items some c.in_ok-sorted.ensures both)

pub loop-next-init : goal.loop-next-init
loop-next-init c =
    let sorted = c.in_ok-sorted.sorted.items in
    let both = subst (All (HasBothEdges c.in_ok-edges.edges.items)) c.deref.ensures.value c.in_ok-edges.ensures.edges in
    let some = subst (λ l. 1 ≤ length l) c.as_slice.ensures.value c.in-len1-up.len_at_least in
    let top = (get_or c.as_slice.result.now 0 no_rect).top in
    let fits : SFits w32 top = search rules in
    let row = to_z-of_z w32 top fits ∙ ap (λ l. (get_or l 0 no_rect).top) c.as_slice.ensures.value in
    let over = subst (λ l. IsOver l c.in_ok-cover.cover) c.deref-2.ensures.value c.in_ok-cover.ensures in
    subst (λ l. IsScannedInto c.args.rects.now (to_z w32 (of_z w32 top)) c.in_ok-cover.cover l c.new-bands.result) (sym c.as_slice-rest.ensures.value)
    (into_none c.args.rects.now sorted c.in_ok-edges.edges.items c.in_ok-cover.cover c.new-bands.result
    (to_z w32 (of_z w32 top)) some row c.in_ok-sorted.ensures over both c.new-bands.ensures.kept c.new-bands.ensures.most)

pub go_to-requires : goal.go_to-requires
go_to-requires c =
    let z = to_z w32 c.loop-next.row-bits in
    let p = to_z w32 (of_z w32 c.in-Some.next) in
    let fits : SFits w32 c.in-Some.next = search rules in
    let next = subst (IsNextRow c.strip.result.now.steady c.loop-next.rest.now) (sym (to_z-of_z w32 c.in-Some.next fits)) c.in-Some.ensures in
    into_seen c.args.rects.now z p c.loop-next.cover c.add_first-rest.new.cover c.loop-next.rest.now c.add_first-rest.result.now c.loop-next.bands
    c.strip.result.now c.loop-next.invariant c.strip.ensures next c.add_first-rest.ensures

pub loop-next-smaller-then-are_equal : goal.loop-next-smaller-then-are_equal
loop-next-smaller-then-are_equal c =
    let z = to_z w32 c.loop-next.row-bits in
    let p = to_z w32 (of_z w32 c.in-Some.next) in
    let fits : SFits w32 c.in-Some.next = search rules in
    let next = subst (IsNextRow c.strip.result.now.steady c.loop-next.rest.now) (sym (to_z-of_z w32 c.in-Some.next fits)) c.in-Some.ensures in
    let turn = turn_of z p c.loop-next.cover c.add_first-rest.new.cover c.go_to.new.self c.loop-next.rest.now c.add_first-rest.result.now c.strip.result.now
    c.strip.ensures next c.add_first-rest.ensures c.go_to.ensures in
    into_falls c.args.rects.now z p c.loop-next.cover c.add_first-rest.new.cover c.go_to.new.self c.loop-next.rest.now c.add_first-rest.result.now
    c.loop-next.bands c.loop-next.invariant turn

pub loop-next-preserved-then-are_equal : goal.loop-next-preserved-then-are_equal
loop-next-preserved-then-are_equal c =
    let z = to_z w32 c.loop-next.row-bits in
    let p = to_z w32 (of_z w32 c.in-Some.next) in
    let fits : SFits w32 c.in-Some.next = search rules in
    let next = subst (IsNextRow c.strip.result.now.steady c.loop-next.rest.now) (sym (to_z-of_z w32 c.in-Some.next fits)) c.in-Some.ensures in
    let turn = turn_of z p c.loop-next.cover c.add_first-rest.new.cover c.go_to.new.self c.loop-next.rest.now c.add_first-rest.result.now c.strip.result.now
    c.strip.ensures next c.add_first-rest.ensures c.go_to.ensures in
    let same = c.are_equal.ensures.0 c.if-are_equal.true in
    into_same c.args.rects.now z p c.loop-next.cover c.add_first-rest.new.cover c.go_to.new.self c.loop-next.rest.now c.add_first-rest.result.now
    c.loop-next.bands c.strip-in-Some.result.now c.strip-in-Some-2.result.now c.strip-in-Some-3.result.now c.loop-next.invariant turn
    c.strip-in-Some.ensures c.strip-in-Some-2.ensures c.strip-in-Some-3.ensures same.0 same.1

pub push_band-requires-clause-columns : goal.push_band-requires-clause-columns
push_band-requires-clause-columns c =
    let z = to_z w32 c.loop-next.row-bits in
    let p = to_z w32 (of_z w32 c.in-Some.next) in
    let fits : SFits w32 c.in-Some.next = search rules in
    let next = subst (IsNextRow c.strip.result.now.steady c.loop-next.rest.now) (sym (to_z-of_z w32 c.in-Some.next fits)) c.in-Some.ensures in
    let turn = turn_of z p c.loop-next.cover c.add_first-rest.new.cover c.go_to.new.self c.loop-next.rest.now c.add_first-rest.result.now c.strip.result.now
    c.strip.ensures next c.add_first-rest.ensures c.go_to.ensures in
    into_columns c.args.rects.now z p c.loop-next.cover c.add_first-rest.new.cover c.go_to.new.self c.loop-next.rest.now c.add_first-rest.result.now
    c.loop-next.bands c.loop-next.invariant turn

pub push_band-requires-clause-room : goal.push_band-requires-clause-room
push_band-requires-clause-room c =
    let z = to_z w32 c.loop-next.row-bits in
    let p = to_z w32 (of_z w32 c.in-Some.next) in
    let fits : SFits w32 c.in-Some.next = search rules in
    let next = subst (IsNextRow c.strip.result.now.steady c.loop-next.rest.now) (sym (to_z-of_z w32 c.in-Some.next fits)) c.in-Some.ensures in
    let turn = turn_of z p c.loop-next.cover c.add_first-rest.new.cover c.go_to.new.self c.loop-next.rest.now c.add_first-rest.result.now c.strip.result.now
    c.strip.ensures next c.add_first-rest.ensures c.go_to.ensures in
    into_room c.args.rects.now z p c.loop-next.cover c.add_first-rest.new.cover c.go_to.new.self c.loop-next.rest.now c.add_first-rest.result.now
    c.loop-next.bands c.loop-next.invariant turn

pub push_band-requires-clause-counted : goal.push_band-requires-clause-counted
push_band-requires-clause-counted c =
    let z = to_z w32 c.loop-next.row-bits in
    let p = to_z w32 (of_z w32 c.in-Some.next) in
    let fits : SFits w32 c.in-Some.next = search rules in
    let next = subst (IsNextRow c.strip.result.now.steady c.loop-next.rest.now) (sym (to_z-of_z w32 c.in-Some.next fits)) c.in-Some.ensures in
    let turn = turn_of z p c.loop-next.cover c.add_first-rest.new.cover c.go_to.new.self c.loop-next.rest.now c.add_first-rest.result.now c.strip.result.now
    c.strip.ensures next c.add_first-rest.ensures c.go_to.ensures in
    into_counted c.args.rects.now z p c.loop-next.cover c.add_first-rest.new.cover c.go_to.new.self c.loop-next.rest.now c.add_first-rest.result.now
    c.loop-next.bands c.loop-next.invariant turn

pub loop-next-smaller : goal.loop-next-smaller
loop-next-smaller c =
    let z = to_z w32 c.loop-next.row-bits in
    let p = to_z w32 (of_z w32 c.in-Some.next) in
    let fits : SFits w32 c.in-Some.next = search rules in
    let next = subst (IsNextRow c.strip.result.now.steady c.loop-next.rest.now) (sym (to_z-of_z w32 c.in-Some.next fits)) c.in-Some.ensures in
    let turn = turn_of z p c.loop-next.cover c.add_first-rest.new.cover c.go_to.new.self c.loop-next.rest.now c.add_first-rest.result.now c.strip.result.now
    c.strip.ensures next c.add_first-rest.ensures c.go_to.ensures in
    into_falls c.args.rects.now z p c.loop-next.cover c.add_first-rest.new.cover c.go_to.new.self c.loop-next.rest.now c.add_first-rest.result.now
    c.loop-next.bands c.loop-next.invariant turn

pub loop-next-preserved : goal.loop-next-preserved
loop-next-preserved c =
    let z = to_z w32 c.loop-next.row-bits in
    let p = to_z w32 (of_z w32 c.in-Some.next) in
    let fits : SFits w32 c.in-Some.next = search rules in
    let next = subst (IsNextRow c.strip.result.now.steady c.loop-next.rest.now) (sym (to_z-of_z w32 c.in-Some.next fits)) c.in-Some.ensures in
    let turn = turn_of z p c.loop-next.cover c.add_first-rest.new.cover c.go_to.new.self c.loop-next.rest.now c.add_first-rest.result.now c.strip.result.now
    c.strip.ensures next c.add_first-rest.ensures c.go_to.ensures in
    into_new c.args.rects.now z p c.loop-next.cover c.add_first-rest.new.cover c.go_to.new.self c.loop-next.rest.now c.add_first-rest.result.now
    c.loop-next.bands c.push_band.new.bands c.strip-in-Some.result.now c.strip-in-Some-2.result.now c.strip-in-Some-3.result.now c.loop-next.invariant
    turn c.strip-in-Some.ensures c.strip-in-Some-2.ensures c.strip-in-Some-3.ensures
    (λ e. false≢true (sym c.if-are_equal.false ∙ c.are_equal.ensures.1 e)) c.in_ok-push_band.ensures.counted c.in_ok-push_band.ensures.most

pub returns : goal.returns
returns c =
    let z = to_z w32 c.loop-next.row-bits in
    let none = c.in_default-next_row.ensures in
    into_all c.args.rects.now z c.loop-next.cover c.loop-next.rest.now c.loop-next.bands c.strip.result.now c.loop-next.invariant c.strip.ensures none.0 none.1
