-- Clips seen from a point.
use Rattle.std.proofs.Common.{◌≡◌, ◌∙◌, ℕ, ◌+◌, ◌<◌, ◌≤◌, ℤ, ◌+ℤ◌, ◌-ℤ◌, pos, List, ◌++◌, map, take, drop, length}
use Rattle.std.proofs.Common.{get_or, ◌&&◌, Option, refl, ap, sym, subst, arith, int_lt, int_le}
use Rattle.std.specs.List.{All}
use Rattle.std.specs.Borrow.{Bor}
use Rattle.std.proofs.lemmas.Int.{ints}
use Rattle.std.proofs.lemmas.List.{length-take-le, length-map, get_or-append-add, get_or-drop, take_all, drop_all, append-nil}
use Rattle.std.proofs.lemmas.List.Elements.{All-map}
use Rattle.geom_base.specs.declared.point.Point.{Point}
use Rattle.geom_base.specs.declared.rect.Rect.{Rect}
use Rattle.geom_base.specs.Points.{is_in, is_in_some, moved, moved_rect, RectMoves, moved_back}
use Rattle.region.specs.Region.{IsRegion, IsRegionOf}
use Rattle.region.specs.Moved.{RegionMoves}
use Rattle.clip_obj.specs.Clip.{allows, to_origin, LiesWithin}

-- what is not moved yet
pub not_moved : (f : Rect → Rect) (rects now : List Rect) (i : ℕ) (d : Rect) → i < length rects → now ≡ map f (take i rects) ++ drop i rects →
    get_or now i d ≡ get_or rects i d
not_moved f rects now i d lt e =
    let long : length (map f (take i rects)) ≡ i = length-map (take i rects) f ∙ length-take-le i rects (omega (arith, lt)) in
    let there : length (map f (take i rects)) + 0 ≡ i = omega (arith, long) in
    ap (λ (l : List Rect). get_or l i d) e ∙ ap (λ k. get_or (map f (take i rects) ++ drop i rects) k d) (sym there)
    ∙ get_or-append-add (map f (take i rects)) (drop i rects) 0 d ∙ get_or-drop i rects 0 d ∙ ap (λ k. get_or rects k d) (omega arith)

-- what lies within bounds that can move can move
one_moves : (by : Point) (outer r : Rect) → RectMoves by outer → LiesWithin outer r → RectMoves by r
one_moves by outer r can h = record {
  left = grind (arith, ints, can.left, can.right, h.left, h.across, h.right);
  top = grind (arith, ints, can.top, can.bottom, h.top, h.down, h.bottom);
  right = grind (arith, ints, can.left, can.right, h.left, h.across, h.right);
  bottom = grind (arith, ints, can.top, can.bottom, h.top, h.down, h.bottom);
}

pub all_move : (by : Point) (outer : Rect) (rects : List Rect) → RectMoves by outer → All (LiesWithin outer) rects → All (RectMoves by) rects
all_move by outer rects can h = λ k d lt. one_moves by outer (get_or rects k d) can (h k d lt)

-- and lies within the bounds moved
one_within : (by : Point) (outer r : Rect) → LiesWithin outer r → LiesWithin (moved_rect outer by) (moved_rect r by)
one_within by outer r h = record {
  left = omega (arith, ints, h.left);
  across = omega (arith, ints, h.across);
  right = omega (arith, ints, h.right);
  top = omega (arith, ints, h.top);
  down = omega (arith, ints, h.down);
  bottom = omega (arith, ints, h.bottom);
}

pub all_within_moved : (by : Point) (outer seen : Rect) (rects moved : List Rect) → seen ≡ moved_rect outer by → moved ≡ map (λ r. moved_rect r by) rects →
    All (LiesWithin outer) rects → All (LiesWithin seen) moved
all_within_moved by outer seen rects moved bounds e h = subst (λ (b : Rect). All (LiesWithin b) moved) (sym bounds)
    (subst (All (LiesWithin (moved_rect outer by))) (sym e)
    (All-map (LiesWithin (moved_rect outer by)) (λ r. moved_rect r by) rects (λ k d lt. one_within by outer (get_or rects k d) (h k d lt))))

-- the points of a clip seen from a point

moved_le : (a x b : ℤ) → int_le a (x -ℤ b) ≡ int_le (a +ℤ b) x
moved_le a x b = grind (arith, ints)

moved_lt : (a x b : ℤ) → int_lt (x -ℤ b) a ≡ int_lt x (a +ℤ b)
moved_lt a x b = grind (arith, ints)

moved_is_in : (p by : Point) (r : Rect) → is_in (moved_back by p) r ≡ is_in p (moved_rect r by)
moved_is_in p by r = rw (moved_le r.left p.x by.x, moved_lt r.right p.x by.x, moved_le r.top p.y by.y, moved_lt r.bottom p.y by.y) refl

back_is : (a b : ℤ) → a -ℤ (pos 0 -ℤ b) ≡ a +ℤ b
back_is a b = omega (arith, ints)

back_from_origin : (at p : Point) → moved_back (to_origin at) p ≡ moved p at
back_from_origin at p = ap (λ x. record { x = x; y = p.y -ℤ (pos 0 -ℤ at.y) }) (back_is p.x at.x)
    ∙ ap (λ y. record { x = p.x +ℤ at.x; y = y }) (back_is p.y at.y)

pub region_seen : RegionMoves → (region : Option (Bor (List Rect))) (frame : Rect) (at : Point) (rects moved_rects : List Rect) →
    moved_rects ≡ map (λ r. moved_rect r (to_origin at)) rects → IsRegionOf (λ p. allows region p && is_in p frame) rects →
    IsRegionOf (λ p. allows region (moved p at) && is_in p (moved_rect frame (to_origin at))) moved_rects
region_seen law region frame at rects moved_rects e h =
    let there = subst (IsRegionOf (λ p. allows region (moved_back (to_origin at) p) && is_in (moved_back (to_origin at) p) frame)) (sym e)
    (law (λ p. allows region p && is_in p frame) rects (to_origin at) h) in
    record {
      canonical = there.canonical;
      points = λ p. there.points p
          ∙ ap (λ u. allows region (moved_back (to_origin at) p) && u) (moved_is_in p (to_origin at) frame)
          ∙ ap (λ q. allows region q && is_in p (moved_rect frame (to_origin at))) (back_from_origin at p);
    }

-- all are moved
pub all_moved : (f : Rect → Rect) (rects now : List Rect) (i : ℕ) → length rects ≤ i → now ≡ map f (take i rects) ++ drop i rects → now ≡ map f rects
all_moved f rects now i le e = e ∙ rw (take_all i rects le, drop_all i rects le) (append-nil (map f rects))

-- what a Vec holds when all of it was moved
pub items_moved : (f : Rect → Rect) (rects now new : List Rect) (n : ℕ) → length rects ≡ n → now ≡ rects → new ≡ map f now →
    take n (new ++ drop (length new) rects) ≡ map f rects
items_moved f rects now new n long same e =
    let moved : new ≡ map f rects = e ∙ ap (map f) same in
    let width : length new ≡ n = ap length moved ∙ length-map rects f ∙ long in
    rw (drop_all (length new) rects (omega (arith, width, long)), append-nil new) (take_all n new (omega (arith, width)) ∙ moved)

-- the list of a region, moved, is one
pub list_seen : RegionMoves → (rects moved_rects : List Rect) (at : Point) → moved_rects ≡ map (λ r. moved_rect r (to_origin at)) rects → IsRegion rects →
    IsRegion moved_rects
list_seen law rects moved_rects at e h =
    subst IsRegion (sym e) (law (λ p. is_in_some p rects) rects (to_origin at) (record { canonical = h; points = λ p. refl })).canonical
