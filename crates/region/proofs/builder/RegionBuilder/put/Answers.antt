use Rattle.std.proofs.Common.{◌≡◌, ℤ, arith, sym, subst, rules, SFits, w32}
use Rattle.std.proofs.lemmas.Int.{ints, to_z-of_z}
use Rattle.region.specs.Columns.{has_column}
use Rattle.region.specs.InnerColumns.{IsColumns}
use Rattle.region.specs.Spans.{in_spans}
use Rattle.region.specs.InnerSpanList.{span_steps}
use Rattle.region.proofs.BuilderLemmas.{rows_take, rows_more}
use Rattle.region.proofs.builder.RegionBuilder.put.Goals as goal

pub put_row-requires-clause-columns : goal.put_row-requires-clause-columns
put_row-requires-clause-columns c = subst (λ row. IsColumns (span_steps row)) (sym c.spans.ensures) c.requires.columns

pub put_row-requires-clause-bands : goal.put_row-requires-clause-bands
put_row-requires-clause-bands c =
    let top = c.args.top in
    let fits : SFits w32 top = search rules in
    rw (to_z-of_z w32 top fits) (rows_take c.requires.above.0 top c.args.self.now.list c.requires.above.1)

pub returns : goal.returns
returns c = λ pushed spans h each.
    let top = c.args.top in
    let bottom = c.args.bottom in
    let top_fits : SFits w32 top = search rules in
    let bottom_fits : SFits w32 bottom = search rules in
    let points = subst (λ row. (x : ℤ) → has_column (span_steps row) x ≡ in_spans x spans) (sym c.spans.ensures) each in
    rw (to_z-of_z w32 bottom bottom_fits) (record {
      rows = rows_more pushed top bottom c.spans.result.now spans c.args.self.now.list c.put_row.new.self h c.requires.rows top_fits
          points (rw (to_z-of_z w32 top top_fits) at c.in_ok-put_row.ensures.put) c.in_ok-put_row.ensures.most;
      above = omega (arith, ints);
    })
