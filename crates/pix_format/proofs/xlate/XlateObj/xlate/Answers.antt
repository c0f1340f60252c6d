use Rattle.std.proofs.Common.{◌∙◌, arith}
use Rattle.pix_format.proofs.XlateLemmas.{IsReady-entry, IsReady-fits}
use Rattle.pix_format.proofs.xlate.XlateObj.xlate.Goals as goal

pub returns-in-Values-clause-value : goal.returns-in-Values-clause-value
returns-in-Values-clause-value c =
    c.index.ensures ∙ IsReady-entry _ _ _ _ _ _ c.self.view_is c.self.invariant.2 c.in-Values.is c.requires

pub returns-in-Values-clause-fits : goal.returns-in-Values-clause-fits
returns-in-Values-clause-fits c =
    let fits = IsReady-fits _ _ _ _ c.args.value c.index.result.now c.self.view_is c.self.invariant.2 c.in-Values.is c.requires in
    omega (arith, fits, c.index.ensures)
