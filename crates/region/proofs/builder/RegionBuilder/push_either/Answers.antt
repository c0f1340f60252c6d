use Rattle.std.proofs.Common.{rules, SFits, w32, ◌++◌, map}
use Rattle.std.proofs.lemmas.Int.{to_z-of_z}
use Rattle.std.proofs.Common.{◌∙◌, sym}
use Rattle.region.specs.InnerSpanList.{span_of}
use Rattle.region.proofs.UnionLemmas.{either_spans}
use Rattle.region.proofs.UniqueLemmas.{on_ok_also}
use Rattle.region.proofs.BuilderLemmas.{rows_above}
use Rattle.region.proofs.builder.RegionBuilder.push_either.Goals as goal

pub put-requires-clause-above : goal.put-requires-clause-above
put-requires-clause-above c =
    let below = c.requires.below in
    let top = c.args.top in
    let fits : SFits w32 top = search rules in
    rw (to_z-of_z w32 top fits) (
      below.0,
      (rw (to_z-of_z w32 top fits) at c.in_ok-end_before.ensures) below.0 (rows_above below.0 below.1 top c.args.self.now below.2 below.3),
    )

pub returns : goal.returns
returns c =
    let top = c.args.top in
    let bottom = c.args.bottom in
    let top_fits : SFits w32 top = search rules in
    let bottom_fits : SFits w32 bottom = search rules in
    on_ok_also _ _ c.put.result (λ put pushed end h above.
    let rows = (rw (to_z-of_z w32 top top_fits) at c.in_ok-end_before.ensures) pushed (rows_above pushed end top c.args.self.now h above) in
    (rw (to_z-of_z w32 top top_fits, to_z-of_z w32 bottom bottom_fits) at put) pushed (map span_of (c.args.left.now ++ c.args.right.now)) rows (λ x. c.in_ok-combine.ensures.points x ∙ sym (either_spans x c.args.left.now c.args.right.now)))
    c.put.ensures
