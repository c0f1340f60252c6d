use Rattle.std.proofs.Common.{rules, SFits, w32}
use Rattle.std.proofs.lemmas.Int.{to_z-of_z}
use Rattle.geom_base.specs.Points.{is_in_some}
use Rattle.region.proofs.CanonicalLaws.{listed_is_canonical}
use Rattle.region.proofs.BuilderLemmas.{rows_built}
use Rattle.region.proofs.builder.RegionBuilder.finish.Goals as goal

pub region_of_list-requires : goal.region_of_list-requires
region_of_list-requires c =
    let bottom = c.args.self.bottom in
    let fits : SFits w32 bottom = search rules in (
      (λ p. is_in_some p c.requires.0),
      rows_built c.requires.0 bottom c.args.self.list c.put_row.new.self c.requires.2.rows fits
          (rw (to_z-of_z w32 bottom fits) at c.in_ok-put_row.ensures.put) c.in_ok-put_row.ensures.most,
    )

pub returns-clause-answer : goal.returns-clause-answer
returns-clause-answer c = λ pushed end h.
    let bottom = c.args.self.bottom in
    let fits : SFits w32 bottom = search rules in
    c.region_of_list.ensures (λ p. is_in_some p pushed) (rows_built pushed bottom c.args.self.list c.put_row.new.self h.rows fits
    (rw (to_z-of_z w32 bottom fits) at c.in_ok-put_row.ensures.put) c.in_ok-put_row.ensures.most)

pub returns-clause-canonical : goal.returns-clause-canonical
returns-clause-canonical c = λ pushed end h within. listed_is_canonical pushed _ within (returns-clause-answer c pushed end h)
