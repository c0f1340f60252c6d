use Rattle.std.proofs.Common.{◌≡◌, ◌∙◌, ℤ, ◌+ℤ◌, ◌-ℤ◌, List, [], ◌∷◌, refl, ap, arith, int_lt, int_le, ◌||◌, map, length, ◌≤◌, Ok}
use Rattle.std.proofs.lemmas.Int.{ints}
use Rattle.geom_base.specs.declared.point.Point.{Point}
use Rattle.geom_base.specs.declared.rect.Rect.{Rect}
use Rattle.geom_base.specs.Points.{is_in, is_in_some, moved_rect, moved_back}
use Rattle.region.specs.Region.{IsRegion}
use Rattle.region.specs.Refusal.{IsAnswer}

moved_le : (a x b : ℤ) → int_le (a +ℤ b) x ≡ int_le a (x -ℤ b)
moved_le a x b = grind (arith, ints)

pub moved_lt : (a x b : ℤ) → int_lt x (a +ℤ b) ≡ int_lt (x -ℤ b) a
moved_lt a x b = grind (arith, ints)

pub moved_is_in : (p by : Point) (r : Rect) → is_in p (moved_rect r by) ≡ is_in (moved_back by p) r
moved_is_in p by r = rw (moved_le r.left p.x by.x, moved_lt r.right p.x by.x, moved_le r.top p.y by.y, moved_lt r.bottom p.y by.y) refl

-- a point is in moved rectangles where it was in them before
pub moved_is_in_some : (p by : Point) (rects : List Rect) → is_in_some p (map (λ r. moved_rect r by) rects) ≡ is_in_some (moved_back by p) rects
moved_is_in_some p by [] = refl
moved_is_in_some p by (r ∷ rects) = ap (λ u. u || is_in_some p (map (λ r. moved_rect r by) rects)) (moved_is_in p by r)
    ∙ ap (λ u. is_in (moved_back by p) r || u) (moved_is_in_some p by rects)

-- the moved list of a region is the region of the moved points
pub moved_answer : (by : Point) (rects moved : List Rect) → IsRegion moved → length moved ≤ 4096 → moved ≡ map (λ r. moved_rect r by) rects →
    IsAnswer (λ p. is_in_some (moved_back by p) rects) (Ok moved)
moved_answer by rects moved r few e = (record { canonical = r; points = λ p. ap (is_in_some p) e ∙ moved_is_in_some p by rects }, few)
