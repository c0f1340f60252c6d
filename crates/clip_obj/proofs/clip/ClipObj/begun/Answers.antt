use Rattle.geom_base.specs.Points.{AreApart}
use Rattle.region.specs.Order.{ComesFirst}
use Rattle.clip_obj.specs.OrderLaws.{pairs_weaker}
use Rattle.clip_obj.proofs.OrderLemmas.{first_is_apart}
use Rattle.clip_obj.proofs.clip.ClipObj.begun.Goals as goal

pub invariant_of-result : goal.invariant_of-result
invariant_of-result c = (c.requires.inside, (pairs_weaker ComesFirst AreApart c.args.rects.items first_is_apart c.requires.in_order.order, tt))
