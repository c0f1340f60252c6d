-- Rectangles on a surface.
use Rattle.std.proofs.Common.{◌≡◌, ◌∙◌, ◌↔◌, IsTrue, sym, arith, inl, inr}
use Rattle.std.proofs.lemmas.Bool.{cases_Bool, false≢true}
use Rattle.std.proofs.lemmas.Int.{ints}
use Rattle.geom_base.specs.declared.point.Point.{Point}
use Rattle.geom_base.specs.declared.rect.Rect.{Rect}
use Rattle.geom_base.specs.declared.size.Size.{Size}
use Rattle.geom_base.specs.Points.{HasPoints, has_points, IsIn, LiesIn, no_rect, whole}
use Rattle.geom_base.specs.PointLaws.{has_point, lies_between}

has_points-HasPoints : (r : Rect) → IsTrue (has_points r) ↔ HasPoints r
has_points-HasPoints r = grind (arith, ints)

-- a rectangle whose points are a surface's lies on it
pub lies_in : (r : Rect) (size : Size) → ((p : Point) → IsIn p r → IsIn p (whole size)) → (((p : Point) → ¬ IsIn p r) → r ≡ no_rect) → LiesIn r size
lies_in r size inside zeros = elim (cases_Bool (has_points r)) [
  | inl e ↦ let h = (has_points-HasPoints r).0 e in
      let w = lies_between r (whole size) inside h in
      record { left = w.left; across = omega (arith, ints, h.across); right = w.right; top = w.top; down = omega (arith, ints, h.down); bottom = w.bottom }
  | inr e ↦ rw (zeros (λ p h. false≢true (sym e ∙ (has_points-HasPoints r).1 (has_point h)))) (grind (arith, ints))
]
