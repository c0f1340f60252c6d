use Rattle.std.proofs.Common.{◌∙◌, arith}
use Rattle.geom_base.proofs.DrawnLemmas.{continues-at}
use Rattle.geom_base.proofs.drawn_list.continues_last.Goals as goal

pub returns : goal.returns
returns c = c.continues.ensures ∙ continues-at c.args.rects.now _ c.args.rect.now _ (grind (arith, c.if-is_empty.false, c.is_empty.ensures))
