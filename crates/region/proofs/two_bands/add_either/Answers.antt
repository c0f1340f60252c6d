use Rattle.std.proofs.Common.{◌≡◌, ◌∙◌, ◌||◌, ◌+ℤ◌, pos, ◌<ℤ◌, ◌≤ℤ◌, ℤ, Bool, arith, rules, sym, subst, to_z, of_z, w32}
use Rattle.std.specs.Int.{int_max}
use Rattle.std.proofs.lemmas.Int.{ints, clamps, to_z-of_z}
use Rattle.region.specs.declared.span_list.SpanList.{SpanList}
use Rattle.region.specs.InnerCursor.{in_columns}
use Rattle.region.specs.InnerRows.{IsUniting}
use Rattle.region.proofs.UniqueLemmas.{on_ok_also}
use Rattle.region.proofs.RowLemmas.{uniting_starts, uniting_goes_on, uniting_begins, uniting_rest, uniting_fewer, uniting_ends}
use Rattle.region.proofs.two_bands.add_either.Goals as goal
use Rattle.region.proofs.two_bands.add_either.Goals.{then-to-next+in_ok-add, else-to-next}

abbrev code : ℤ → ℤ
code z = to_z w32 (of_z w32 z)

pub loop-next-init : goal.loop-next-init
loop-next-init c =
    let r = c.in-Some.first.now in
    let left : code r.left ≡ r.left = search (rules, to_z-of_z) in
    let right : code r.right ≡ r.right = search (rules, to_z-of_z) in
    let set : ℤ → Bool = λ x. in_columns x c.args.left.now || in_columns x c.args.right.now in
    let a = c.in-Some.rest_left.now in
    let b = c.in-Some.rest_right.now in
    let start = uniting_rest set c.args.left.now c.args.right.now a b r r.left r.right c.args.row.now.spans.items c.in-Some.ensures (omega (arith, ints))
    (uniting_starts c.args.left.now c.args.right.now r c.args.row.now.spans.items c.in-Some.ensures.leftmost c.requires.left c.requires.right c.requires.nothing) in
    subst (λ z. IsUniting set a b z (code r.right) c.args.row.now.spans.items) (sym left)
    (subst (λ z. IsUniting set a b r.left z c.args.row.now.spans.items) (sym right) start)

pub loop-next-smaller : goal.loop-next-smaller
loop-next-smaller c = uniting_fewer c.loop-next.a.now c.loop-next.b.now c.in-Some-leftmost.rest_a.now c.in-Some-leftmost.rest_b.now c.in-Some-leftmost.next.now
    c.in-Some-leftmost.ensures

pub loop-next-preserved : goal.loop-next-preserved
loop-next-preserved c =
    let r = c.in-Some-leftmost.next.now in
    let first = c.in-Some-leftmost.ensures.leftmost in
    let set : ℤ → Bool = λ x. in_columns x c.args.left.now || in_columns x c.args.right.now in
    let a = c.loop-next.a.now in
    let b = c.loop-next.b.now in
    let from = to_z w32 c.loop-next.from-bits in
    let to = to_z w32 c.loop-next.to-bits in
    let next : code c.max-to.result ≡ int_max to r.right = grind (arith, to_z-of_z, c.max-to.ensures.value) in
    let longer : IsUniting set a b (to_z w32 c.if-to-next.from-bits) (code c.max-to.result) c.if-to-next.row.spans.items = elim c.if-to-next.branch [
      | then-to-next+in_ok-add w ↦
          let left : code r.left ≡ r.left = search (rules, to_z-of_z) in
          let later : to <ℤ r.left = grind (arith, ints, to_z-of_z, w.if-to-next.true) in
          subst (λ z. IsUniting set a b z (code c.max-to.result) c.if-to-next.row.spans.items) (sym (w.from-is ∙ left))
          (subst (λ (l : SpanList). IsUniting set a b r.left (code c.max-to.result) l.spans.items) (sym w.row-is)
          (uniting_begins set a b r from to (code c.max-to.result) c.loop-next.row.spans.items w.add.new.self.spans.items first later next
          c.loop-next.invariant w.in_ok-add.ensures.row w.in_ok-add.ensures.points))
      | else-to-next w ↦
          let touches : r.left ≤ℤ to = grind (arith, ints, to_z-of_z, w.if-to-next.false) in
          subst (λ z. IsUniting set a b z (code c.max-to.result) c.if-to-next.row.spans.items) (sym w.from-is)
          (subst (λ (l : SpanList). IsUniting set a b from (code c.max-to.result) l.spans.items) (sym w.row-is)
          (uniting_goes_on set a b r from to (code c.max-to.result) c.loop-next.row.spans.items first touches next c.loop-next.invariant))
    ] in
    uniting_rest set a b c.in-Some-leftmost.rest_a.now c.in-Some-leftmost.rest_b.now r (to_z w32 c.if-to-next.from-bits) (code c.max-to.result)
    c.if-to-next.row.spans.items c.in-Some-leftmost.ensures (omega (arith, ints, clamps, next)) longer

pub returns-clause-columns : goal.returns-clause-columns
returns-clause-columns c =
    let from = to_z w32 c.loop-next.from-bits in
    let to = to_z w32 c.loop-next.to-bits in
    let across = c.loop-next.invariant.across in
    on_ok_also _ _ c.add-2.result (λ row. (row (to +ℤ pos 1) (omega (arith, ints, across)) (λ lt. omega (arith, ints))).columns) c.add-2.ensures.row

pub returns-clause-points : goal.returns-clause-points
returns-clause-points c = on_ok_also _ _ c.add-2.result (uniting_ends (λ x. in_columns x c.args.left.now || in_columns x c.args.right.now)
    c.loop-next.a.now c.loop-next.b.now (to_z w32 c.loop-next.from-bits) (to_z w32 c.loop-next.to-bits) c.loop-next.row.spans.items
    c.add-2.new.self.spans.items c.in_default-leftmost.ensures.0 c.in_default-leftmost.ensures.1 c.loop-next.invariant) c.add-2.ensures.points
