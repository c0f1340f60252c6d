use Rattle.std.proofs.Common.{arith, rules, SFits, w32}
use Rattle.std.proofs.lemmas.Int.{ints, to_z-of_z}
use Rattle.region.proofs.BuilderLemmas.{rows_until}
use Rattle.region.proofs.builder.RegionBuilder.end_before.Goals as goal

pub returns-in_ok-put_row : goal.returns-in_ok-put_row
returns-in_ok-put_row c = λ pushed h.
    let bottom = c.args.self.now.bottom in
    let fits : SFits w32 bottom = search rules in
    rows_until pushed bottom c.args.top.now c.args.self.now.list c.put_row.new.self h.rows (omega (arith, ints, c.if-self-top.true)) fits
    (rw (to_z-of_z w32 bottom fits) at c.in_ok-put_row.ensures.put) c.in_ok-put_row.ensures.most
