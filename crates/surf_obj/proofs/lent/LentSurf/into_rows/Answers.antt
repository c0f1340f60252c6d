use Rattle.std.proofs.Common.{◌∙◌, ap, length}
use Rattle.surf_obj.specs.Layout.{Layout, values_in}
use Rattle.surf_obj.proofs.RowsLemmas.{values_in-rows, Holds-rows}
use Rattle.surf_obj.proofs.lent.LentSurf.into_rows.Goals as goal

pub invariant_of-result : goal.invariant_of-result
invariant_of-result c =
    let s = c.args.self in
    record { holds = rw c.rows.ensures (Holds-rows s.layout c.args.top c.args.rows (length s.bits.now) c.requires.some c.requires.inside s.holds) }

pub returns-clause-values : goal.returns-clause-values
returns-clause-values c =
    let s = c.args.self in
    ap (λ (l : Layout). values_in l s.bits.now) c.rows.ensures ∙ values_in-rows s.layout s.bits.now c.args.top c.args.rows c.requires.inside
