use Rattle.std.proofs.Common.{rules}
use Rattle.region.proofs.CanonicalLaws.{listed_is_canonical}
use Rattle.region.proofs.region.Region.from_rects.Goals as goal

pub returns-in-Some-clause-answer : goal.returns-in-Some-clause-answer
returns-in-Some-clause-answer c =
    let rows = rw c.in-Some.is at c.in_ok-builder.ensures in c.finish.ensures.answer c.args.rects.now rows.0 rows.1

pub returns-in-Some-clause-canonical : goal.returns-in-Some-clause-canonical
returns-in-Some-clause-canonical c =
    let rows = rw c.in-Some.is at c.in_ok-builder.ensures in c.finish.ensures.canonical c.args.rects.now rows.0 rows.1

pub returns-clause-canonical : goal.returns-clause-canonical
returns-clause-canonical c = λ within. listed_is_canonical c.args.rects.now _ within (search rules)
