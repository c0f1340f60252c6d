use Rattle.std.proofs.Common.{◌∙◌, sym}
use Rattle.std.proofs.lemmas.List.{get_or-reverse}
use Rattle.geom_base.specs.Points.{no_rect}
use Rattle.clip_obj.proofs.BatchLemmas.{turned_back}
use Rattle.clip_obj.proofs.batch.rect_at.Goals as goal

pub returns-in-LeftUp-clause-rect : goal.returns-in-LeftUp-clause-rect
returns-in-LeftUp-clause-rect c = rw c.in-LeftUp.is (sym (get_or-reverse c.args.rects.now c.args.place no_rect c.requires.place))

pub returns-in-RightUp-clause-rect : goal.returns-in-RightUp-clause-rect
returns-in-RightUp-clause-rect c = rw c.in-RightUp.is (c.turned_at-in-RightUp.ensures.rect ∙ turned_back c.args.rects.now c.args.place c.requires.place)
