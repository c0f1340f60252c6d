use Rattle.std.proofs.Common.{ap, subst}
use Rattle.geom_base.specs.Points.{AreApart}
use Rattle.region.specs.Order.{ComesFirst, IsInOrder}
use Rattle.clip_obj.specs.Clip.{Clip}
use Rattle.clip_obj.specs.OrderLaws.{pairs_weaker}
use Rattle.clip_obj.proofs.OrderLemmas.{first_is_apart}
use Rattle.clip_obj.proofs.clip.ClipObj.count.Goals as goal

pub returns-clause-in_order : goal.returns-clause-in_order
returns-clause-in_order c = subst IsInOrder (ap (λ (v : Clip). v.rects) c.self.view_is) c.self.invariant.1

pub returns-clause-apart : goal.returns-clause-apart
returns-clause-apart c = pairs_weaker ComesFirst AreApart c.args.self.now.rects first_is_apart (returns-clause-in_order c).order
