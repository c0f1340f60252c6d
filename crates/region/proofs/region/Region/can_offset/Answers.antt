use Rattle.std.proofs.Common.{◌∙◌, ◌↔◌, ◌-ℤ◌, pos, negsuc, refl, sym, subst, arith, map, List, get_or}
use Rattle.std.specs.List.{All}
use Rattle.std.proofs.lemmas.Int.{ints}
use Rattle.std.proofs.lemmas.Bool.{false≢true}
use Rattle.std.proofs.lemmas.List.Elements.{All-map, All-nil}
use Rattle.geom_base.specs.declared.point.Point.{Point}
use Rattle.geom_base.specs.declared.rect.Rect.{Rect}
use Rattle.geom_base.specs.Points.{HasPoints, moved_rect}
use Rattle.region.specs.Extents.{AreExtents}
use Rattle.region.specs.InnerExtents.{Surrounds}
use Rattle.region.specs.Window.{HasEdges, Within}
use Rattle.region.proofs.ExtentLemmas.{extents_surround, no_rects_without}
use Rattle.region.proofs.OrderLemmas.{region_in_order}
use Rattle.region.proofs.CanonicalLaws.{can_all_move, moved_at}
use Rattle.region.proofs.region.Region.can_offset.Goals as goal

-- the edges that can be moved there
abbrev edges_back : Point → Rect
edges_back by = record { left = negsuc 32767 -ℤ by.x; top = negsuc 32767 -ℤ by.y; right = pos 32767 -ℤ by.x; bottom = pos 32767 -ℤ by.y }

edges_within : (by : Point) (r : Rect) → HasPoints r → Surrounds (edges_back by) r → HasEdges (moved_rect r by)
edges_within by r h s =
    let a = h.across in let b = h.down in let left = s.left in let top = s.top in let right = s.right in let bottom = s.bottom in
    record {
      left = record { least = omega (arith, ints, left); greatest = omega (arith, ints, a, right) };
      top = record { least = omega (arith, ints, top); greatest = omega (arith, ints, b, bottom) };
      right = record { least = omega (arith, ints, a, left); greatest = omega (arith, ints, right) };
      bottom = record { least = omega (arith, ints, b, top); greatest = omega (arith, ints, bottom) };
    }

within_edges : (by : Point) (r : Rect) → HasEdges (moved_rect r by) → Surrounds (edges_back by) r
within_edges by r h = record {
  left = let e = h.left.least in omega (arith, ints, e);
  top = let e = h.top.least in omega (arith, ints, e);
  right = let e = h.right.greatest in omega (arith, ints, e);
  bottom = let e = h.bottom.greatest in omega (arith, ints, e);
}

-- all edges can move where those of the extents can
extents_within : (by : Point) (rects : List Rect) (e : Rect) → HasPoints e → All HasPoints rects → AreExtents rects e →
    HasEdges (moved_rect e by) ↔ Within (map (λ r. moved_rect r by) rects)
extents_within by rects e points h extents =
    let both = extents_surround (edges_back by) rects e points h extents in (
      λ can.
          let all = both.1 (within_edges by e can) in
          All-map HasEdges (λ r. moved_rect r by) rects (λ k d lt. edges_within by (get_or rects k d) (h k d lt) (all k d lt)),
      λ within.
          let all = moved_at by rects within in
          edges_within by e points (both.0 (λ k d lt. within_edges by (get_or rects k d) (all k d lt))),
    )

pub returns-then-not-has_points-clause-within : goal.returns-then-not-has_points-clause-within
returns-then-not-has_points-clause-within c =
    let none = no_rects_without c.self.inside.rects.items c.self.inside.extents (λ points. false≢true (c.if-not-has_points.ensures.points.1 points))
    (region_in_order c.self.inside.rects.items c.self.invariant.region).points c.self.invariant.extents in (
      λ t. subst (λ l. Within (map (λ r. moved_rect r c.args.by) l)) (sym none ∙ c.self.view_is) (All-nil HasEdges),
      λ within. refl,
    )

pub returns-then-not-has_points-clause-can_move : goal.returns-then-not-has_points-clause-can_move
returns-then-not-has_points-clause-can_move c = λ t. can_all_move c.args.by c.args.self.now ((returns-then-not-has_points-clause-within c).0 t)

pub returns-clause-within : goal.returns-clause-within
returns-clause-within c =
    let edges = extents_within c.args.by c.self.inside.rects.items c.self.inside.extents (c.if-not-has_points.ensures.points.0 refl)
    (region_in_order c.self.inside.rects.items c.self.invariant.region).points c.self.invariant.extents in (
      λ t. subst (λ l. Within (map (λ r. moved_rect r c.args.by) l)) c.self.view_is (edges.0 (c.has_edges.ensures.0 t)),
      λ within. c.has_edges.ensures.1 (edges.1 (subst (λ l. Within (map (λ r. moved_rect r c.args.by) l)) (sym c.self.view_is) within)),
    )

pub returns-clause-can_move : goal.returns-clause-can_move
returns-clause-can_move c = λ t. can_all_move c.args.by c.args.self.now ((returns-clause-within c).0 t)
