use Rattle.std.proofs.Common.{◌≡◌, ◌∙◌, ◌-◌, Bool, length, sym, ap, set, true}
use Rattle.std.specs.List.{All}
use Rattle.geom_base.proofs.DrawnLemmas.{has_last, joined_at, points-pushed, pushed-apart}
use Rattle.geom_base.specs.Drawn.{continues_last, pushed}
use Rattle.geom_base.specs.Points.{HasPoints, is_in_some}
use Rattle.geom_base.proofs.drawn_list.DrawnList.push.Goals as goal

-- the last entry and the rectangle in its place
joins : (c : goal.After-self-1) → (set c.self.inside.entries.items (c.len-last.result - 1) c.joined.result ≡ pushed c.self.inside.entries.items c.args.rect)
    × All HasPoints (set c.self.inside.entries.items (c.len-last.result - 1) c.joined.result)
joins c =
    let here : continues_last c.self.inside.entries.items c.args.rect ≡ true = rw c.deref.ensures.value at (sym c.continues_last.ensures ∙ c.if-continues_last.true) in
    joined_at c.self.inside.entries.items _ c.args.rect c.index.result.now c.joined.result
    (has_last c.self.inside.entries.items c.args.rect _ here (c.len-last.ensures ∙ sym c.deref.ensures.len ∙ ap length c.deref.ensures.value))
    c.index.ensures c.joined.ensures here c.self.invariant c.requires.points

pub invariant_of-self : goal.invariant_of-self
invariant_of-self c = (joins c).1

pub returns-then-continues_last-clause-rects : goal.returns-then-continues_last-clause-rects
returns-then-continues_last-clause-rects c = rw (← c.self.view_is) (joins c).0

pub returns-then-continues_last-clause-points : goal.returns-then-continues_last-clause-points
returns-then-continues_last-clause-points c = rw (← c.self.view_is) (λ p.
    ap (λ rs. is_in_some p rs) (joins c).0 ∙ points-pushed c.self.inside.entries.items c.args.rect p c.self.invariant c.requires.points)

pub returns-clause-rects : goal.returns-clause-rects
returns-clause-rects c =
    let apart = rw c.deref.ensures.value at (sym c.continues_last.ensures ∙ c.if-continues_last.false) in
    rw (← c.self.view_is) (c.push_reserved.ensures.items ∙ pushed-apart c.self.inside.entries.items c.args.rect apart)
