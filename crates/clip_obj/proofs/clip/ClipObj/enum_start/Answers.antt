use Rattle.std.proofs.Common.{◌∙◌, ap, subst, List}
use Rattle.std.specs.List.Sorted.{IsPermutation}
use Rattle.geom_base.specs.declared.rect.Rect.{Rect}
use Rattle.geom_base.specs.Points.{AreApart}
use Rattle.clip_obj.specs.Clip.{Clip}
use Rattle.clip_obj.specs.Order.{ordered, ComesBefore}
use Rattle.clip_obj.specs.OrderLaws.{ordered_rearranges, pairs_weaker, before_is_apart}
use Rattle.clip_obj.proofs.OrderLemmas.{ordered_order}
use Rattle.clip_obj.proofs.SameLemmas.{clip_same}
use Rattle.clip_obj.proofs.clip.ClipObj.enum_start.Goals as goal

pub returns-clause-all : goal.returns-clause-all
returns-clause-all c = subst (λ (l : List Rect). IsPermutation l (ordered c.args.direction c.self.inside.rects.items))
    (ap (λ (v : Clip). v.rects) c.self.view_is) (ordered_rearranges c.args.direction c.self.inside.rects.items)

pub returns-clause-order : goal.returns-clause-order
returns-clause-order c = ordered_order c.args.direction c.self.inside.rects.items c.self.invariant.1

pub returns-clause-apart : goal.returns-clause-apart
returns-clause-apart c = pairs_weaker (ComesBefore c.args.direction) AreApart (ordered c.args.direction c.self.inside.rects.items)
    (before_is_apart c.args.direction)
    (ordered_order c.args.direction c.self.inside.rects.items c.self.invariant.1)

pub returns-clause-start : goal.returns-clause-start
returns-clause-start c =
    clip_same c.self.inside.bounds c.self.inside.rects.items (ordered c.args.direction c.self.inside.rects.items) _ c.self.inside.inside _ c.self.inside.apart
    ∙ ap (λ (v : Clip). record v { left = ordered c.args.direction v.rects }) c.self.view_is
