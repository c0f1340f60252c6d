use Rattle.std.proofs.Common.{arith}
use Rattle.pix_format.specs.Standard.{standard_colour, standard_colours}
use Rattle.pix_format.proofs.XlateLemmas.{tabulated-push, tabulated-all}
use Rattle.pix_format.proofs.colour_table.ColourTable.standard.Goals as goal

pub loop-index-preserved : goal.loop-index-preserved
loop-index-preserved c = tabulated-push (standard_colour c.args.format) _ _ _ _ c.loop-index.invariant c.in_ok-push.ensures.items c.standard_colour.ensures

pub returns-clause-colours : goal.returns-clause-colours
unfolding standard_colours
returns-clause-colours c = tabulated-all (standard_colour c.args.format) _ _ _ c.loop-index.invariant (omega arith)
