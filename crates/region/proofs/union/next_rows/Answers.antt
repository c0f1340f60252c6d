use Rattle.std.proofs.Common.{◌≡◌, ◌⊎◌, inl, inr, ◌≤◌, length, arith, rules, SFits, w32, to_z, of_z}
use Rattle.std.specs.Int.{int_min, int_max}
use Rattle.std.proofs.lemmas.Int.{ints, to_z-of_z}
use Rattle.region.specs.InnerUnion.{first_top, next_edge}
use Rattle.region.proofs.UnionLemmas.{are_next_rows}
use Rattle.region.proofs.union.next_rows.Goals as goal
use Rattle.region.proofs.union.next_rows.Goals.{else-is_empty-via-then-is_empty+else-is_empty-2, else-is_empty-via-else-is_empty}

pub returns : goal.returns
returns c =
    let row = c.args.row.now in
    let a = c.args.a.now in
    let b = c.args.b.now in
    let top = to_z w32 (of_z w32 c.max-top.result) in
    let bottom = to_z w32 (of_z w32 c.min-bottom.result) in
    let some : (1 ≤ length a) ⊎ (1 ≤ length b) = elim c.else-is_empty.branch [
      | else-is_empty-via-then-is_empty+else-is_empty-2 w ↦ inr (search (rules, arith))
      | else-is_empty-via-else-is_empty w ↦ inl (search (rules, arith))
    ] in
    let edge_a : SFits w32 c.next_edge.result = search rules in
    let edge_b : SFits w32 c.next_edge-2.result = search rules in
    let top_is : top ≡ int_max (int_min (first_top a) (first_top b)) row =
    grind (arith, to_z-of_z, c.max-top.ensures.value, c.min.ensures.value, c.first_top.ensures, c.first_top-2.ensures) in
    let bottom_is : bottom ≡ int_min (next_edge top a) (next_edge top b) =
    grind (arith, to_z-of_z, c.min-bottom.ensures.value, c.next_edge.ensures, c.next_edge-2.ensures) in
    are_next_rows row top bottom a b c.requires.left c.requires.right some top_is bottom_is
    (omega (arith, ints, edge_a, c.next_edge.ensures)) (omega (arith, ints, edge_b, c.next_edge-2.ensures))
