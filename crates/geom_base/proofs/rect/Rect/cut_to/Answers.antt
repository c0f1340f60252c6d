use Rattle.geom_base.proofs.RectLemmas.{lies_in}
use Rattle.geom_base.proofs.rect.Rect.cut_to.Goals as goal

pub returns-clause-inside : goal.returns-clause-inside
returns-clause-inside c =
    let common = rw c.whole.ensures at c.intersect.ensures.common in
    lies_in c.intersect.result c.args.size (λ p h. ((common p).0 h).1) c.intersect.ensures.zeros
