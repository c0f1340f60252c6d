-- Regions whose extents share no point.
use Rattle.std.proofs.Common.{◌≡◌, ◌∙◌, ◌≤◌, List, [], length, Bool, true, false, refl, ap, sym, arith, ◌&&◌, not, Ok}
use Rattle.std.proofs.lemmas.Bool.{false≢true}
use Rattle.geom_base.specs.declared.point.Point.{Point}
use Rattle.geom_base.specs.declared.rect.Rect.{Rect}
use Rattle.geom_base.specs.Points.{is_in_some}
use Rattle.region.specs.declared.operation.Operation.TheVariants.{Intersect, Subtract}
use Rattle.region.specs.Operation.{holds_after}
use Rattle.region.specs.Region.{IsRegion}
use Rattle.region.specs.Refusal.{IsAnswer}

-- no list holds a point of both
abbrev pub are_apart : List Rect → List Rect → Type 0
are_apart a b = (p : Point) → (is_in_some p a && is_in_some p b) ≡ false

-- they have nothing in common
pub apart_intersect : (a b rects : List Rect) → are_apart a b → rects ≡ [] → IsAnswer (λ p. holds_after Intersect (is_in_some p a) (is_in_some p b)) (Ok rects)
apart_intersect a b rects apart e = (
  record {
    canonical = rw e (record { bands = []; canonical = record { reduced = tt; values = tt; ends = refl }; listed = refl });
    points = λ p. ap (is_in_some p) e ∙ sym (apart p);
  },
  rw e (omega arith),
)

alone : (a b : Bool) → (a && b) ≡ false → a ≡ (a && not b)
alone true true e = absurd (false≢true (sym e))
alone true false e = refl
alone false b e = refl

-- and nothing is taken from one by the other
pub apart_subtract : (a b rects : List Rect) → are_apart a b → IsRegion rects → length rects ≤ 4096 → rects ≡ a →
    IsAnswer (λ p. holds_after Subtract (is_in_some p a) (is_in_some p b)) (Ok rects)
apart_subtract a b rects apart h few same = (
  record { canonical = h; points = λ p. ap (is_in_some p) same ∙ alone (is_in_some p a) (is_in_some p b) (apart p) },
  few,
)
