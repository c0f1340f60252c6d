use Rattle.std.proofs.Common.{rules}
use Rattle.pix_format.specs.declared.xlate.XlateKind.TheVariants.{Trivial, Table}
use Rattle.pix_format.proofs.XlateLemmas.{trivial_kind}
use Rattle.pix_format.proofs.xlate.XlateObj.kind.Goals as goal

pub returns-in-Same-clause-trivial : goal.returns-in-Same-clause-trivial
returns-in-Same-clause-trivial c = trivial_kind c.args.self.now Trivial (search rules)

pub returns-in-Values-clause-trivial : goal.returns-in-Values-clause-trivial
returns-in-Values-clause-trivial c = trivial_kind c.args.self.now Table (search rules)
