use Rattle.surf_obj.proofs.lent.LentSurf.over.Goals as goal

pub invariant_of-result : goal.invariant_of-result
invariant_of-result c = record { holds = rw c.new.ensures (c.in-None.ensures.none c.args.bottom_up) }
