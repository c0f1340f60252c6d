use Rattle.std.proofs.Common.{◌≡◌, sym, subst, true, rules}
use Rattle.region.specs.InnerCursor.{StaysUntil}
use Rattle.region.specs.InnerSweep.{both, both_now}
use Rattle.region.proofs.SweepLemmas.{decided_stays, later_stays}
use Rattle.region.proofs.sweep.next_place.Goals as goal

pub returns-in-true-true-clause-stays : goal.returns-in-true-true-clause-stays
returns-in-true-true-clause-stays g c = λ op y off d at_a at_b.
    let left_is : c.decides-by_left.result ≡ true = search rules in
    let right_is : c.decides-by_right.result ≡ true = search rules in
    let left = c.decides-by_left.ensures left_is in
    let right = c.decides-by_right.ensures right_is in
    let a = g.C.Cursor.set c.args.a.now in
    let b = g.C.Cursor.set c.args.b.now in
    let now_a = g.C.Cursor.now c.args.a.now in
    let now_b = g.C.Cursor.now c.args.b.now in
    subst (StaysUntil (both op a b) (both_now op now_a now_b) y) (sym c.later.ensures)
    (later_stays (both op a b) (both_now op now_a now_b) y c.next.result c.next-in-true-true.result
    (decided_stays op a b now_a now_b left.0 y c.next.result off (d.by_left left.0 left.1) (c.uniform.ensures left.0 left.2) (c.next.ensures.stays y at_a))
    (decided_stays (λ v w. op w v) b a now_b now_a right.0 y c.next-in-true-true.result off (d.by_right right.0 right.1)
    (c.uniform-2.ensures right.0 right.2) (c.next-in-true-true.ensures.stays y at_b)))

pub returns-in-true-false-clause-stays : goal.returns-in-true-false-clause-stays
returns-in-true-false-clause-stays g c = λ op y off d at_a at_b.
    let left_is : c.decides-by_left.result ≡ true = search rules in
    let left = c.decides-by_left.ensures left_is in
    decided_stays op (g.C.Cursor.set c.args.a.now) (g.C.Cursor.set c.args.b.now) (g.C.Cursor.now c.args.a.now) (g.C.Cursor.now c.args.b.now) left.0 y
    c.next-in-true-false.result off (d.by_left left.0 left.1) (c.uniform.ensures left.0 left.2) (c.next-in-true-false.ensures.stays y at_a)

pub returns-in-false-true-clause-stays : goal.returns-in-false-true-clause-stays
returns-in-false-true-clause-stays g c = λ op y off d at_a at_b.
    let right_is : c.decides-by_right.result ≡ true = search rules in
    let right = c.decides-by_right.ensures right_is in
    decided_stays (λ v w. op w v) (g.C.Cursor.set c.args.b.now) (g.C.Cursor.set c.args.a.now) (g.C.Cursor.now c.args.b.now) (g.C.Cursor.now c.args.a.now) right.0 y
    c.next-in-false-true.result off (d.by_right right.0 right.1) (c.uniform-2.ensures right.0 right.2) (c.next-in-false-true.ensures.stays y at_b)
