use Rattle.surf_obj.proofs.view.LentView.over.Goals as goal

pub on-requires : goal.on-requires
on-requires c = rw c.new.ensures (c.in-None.ensures.none c.args.bottom_up)
