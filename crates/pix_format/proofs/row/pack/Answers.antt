use Rattle.std.proofs.Common.{rules}
use Rattle.pix_format.proofs.ValueLemmas.{values-fit}
use Rattle.pix_format.proofs.row.pack.Goals as goal

pub returns-in-B1-clause-fits : goal.returns-in-B1-clause-fits
returns-in-B1-clause-fits c = values-fit c.args.format c.args.table.now c.args.values.now c.pack_table.new.values c.requires (search rules)

pub returns-in-B555-clause-values : goal.returns-in-B555-clause-values
returns-in-B555-clause-values c = let each = c.each.ensures in λ k inside. let one = each k inside in search rules

pub returns-in-B555-clause-fits : goal.returns-in-B555-clause-fits
returns-in-B555-clause-fits c = values-fit c.args.format c.args.table.now c.args.values.now c.each.new.values c.requires (returns-in-B555-clause-values c)

pub returns-in-B565-clause-values : goal.returns-in-B565-clause-values
returns-in-B565-clause-values c = let each = c.each-in-B565.ensures in λ k inside. let one = each k inside in search rules

pub returns-in-B565-clause-fits : goal.returns-in-B565-clause-fits
returns-in-B565-clause-fits c = values-fit c.args.format c.args.table.now c.args.values.now c.each-in-B565.new.values c.requires
    (returns-in-B565-clause-values c)

pub returns-in-B24-clause-values : goal.returns-in-B24-clause-values
returns-in-B24-clause-values c = let each = c.each-in-B24.ensures in λ k inside. let one = each k inside in search rules

pub returns-in-B24-clause-fits : goal.returns-in-B24-clause-fits
returns-in-B24-clause-fits c = values-fit c.args.format c.args.table.now c.args.values.now c.each-in-B24.new.values c.requires (returns-in-B24-clause-values c)
