use Rattle.std.proofs.Common.{rules}
use Rattle.pix_format.proofs.XlateLemmas.{looked_up-translated, looked_up-fit}
use Rattle.pix_format.proofs.xlate.XlateObj.xlate_row.Goals as goal

pub returns-in-Values-clause-values : goal.returns-in-Values-clause-values
returns-in-Values-clause-values c =
    looked_up-translated _ c.args.self.now _ _ c.as_slice.result.now c.args.values.now c.look_up.new.values c.self.view_is c.self.invariant.2
    c.in-Values.is c.as_slice.ensures.value (search rules) c.requires c.look_up.ensures

pub returns-in-Values-clause-fits : goal.returns-in-Values-clause-fits
returns-in-Values-clause-fits c =
    looked_up-fit _ c.args.self.now _ _ c.as_slice.result.now c.args.values.now c.look_up.new.values c.self.view_is c.self.invariant.2
    c.in-Values.is c.as_slice.ensures.value (search rules) c.requires c.look_up.ensures
