use Rattle.surf_obj.proofs.LayoutLemmas.{point-fit}
use Rattle.surf_obj.proofs.lent.LentSurf.copy_row.Goals as goal

pub returns-clause-fits : goal.returns-clause-fits
returns-clause-fits c k lt =
    let s = c.args.source.now in
    rw (← c.requires.format) (point-fit s.layout s.bits.now c.args.from k c.args.len c.requires.source lt s.items)
