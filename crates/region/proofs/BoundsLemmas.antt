-- The region of a single rectangle.
use Rattle.std.proofs.Common.{◌≡◌, ◌∙◌, List, [], ◌∷◌, Bool, false, refl, ap, sym, arith, ◌&&◌, IsTrue, ◌⊎◌, inl, inr, get_or, length, ◌==◌, ◌<◌, ◌≤◌}
use Rattle.std.specs.Bool.{Decides}
use Rattle.std.specs.Ordering.{int_eq}
use Rattle.std.proofs.lemmas.Bool.{false_from_ne_true}
use Rattle.std.proofs.lemmas.Bool.Decides.{Decides-and, Decides-like, Decides-int_eq, Decides-eqb}
use Rattle.std.proofs.lemmas.Int.{ints}
use Rattle.std.proofs.lemmas.List.Elements.{All-cons, All-nil}
use Rattle.std.proofs.lemmas.List.Kept.{AllPairs-cons}
use mathlib.Core.Bool.{or-false}
use Rattle.geom_base.specs.declared.point.Point.{Point}
use Rattle.geom_base.specs.declared.rect.Rect.{Rect}
use Rattle.geom_base.specs.Points.{IsIn, is_in, is_in_some, HasPoints}
use Rattle.geom_base.specs.PointLaws.{is_in-IsIn, same_edges}
use Rattle.region.specs.Order.{ComesFirst, IsInOrder}
use Rattle.region.specs.Region.{IsRegion, IsRegionOf}
use Rattle.region.proofs.RegionLemmas.{region_is_unique}
use Rattle.region.proofs.StepLemmas.{lt_is, ge_is}
use Rattle.region.proofs.RegionLemmas.{no_columns}
use Rattle.region.specs.Columns.{HasColumns, Columns, has_column}
use Rattle.region.specs.Band.{Bands, IsCanonical}
use Rattle.std.proofs.Common.{◌<ℤ◌, true, pos}
use Rattle.std.proofs.lemmas.Bool.{false≢true}

-- the bands of a rectangle
abbrev rect_columns : Rect → Columns
rect_columns r = record { from = r.left; value = true } ∷ record { from = r.right; value = false } ∷ []

abbrev rect_bands : Rect → Columns → Bands
rect_bands r columns = record { from = r.top; value = columns } ∷ record { from = r.bottom; value = [] } ∷ []

rect_has_columns : (r : Rect) → r.left <ℤ r.right → HasColumns (rect_columns r)
rect_has_columns r h = record { reduced = ((λ same. false≢true (sym (same (pos 0)))), h, ((λ same. false≢true (same (pos 0))), tt, tt)); ends = refl }

not_none : (r : Rect) → r.left <ℤ r.right → has_column (rect_columns r) r.left ≡ true
not_none r h = rw (ge_is r.left r.left (omega (arith, ints)), lt_is r.left r.right h) refl

rect_canonical : (r : Rect) → r.left <ℤ r.right → r.top <ℤ r.bottom → IsCanonical (rect_bands r (rect_columns r))
rect_canonical r h k = record {
  reduced = ((λ same. false≢true (sym (same r.left) ∙ not_none r h)), k, ((λ same. false≢true (same r.left ∙ not_none r h)), tt, tt));
  values = (rect_has_columns r h, (no_columns, tt));
  ends = refl;
}

-- a rectangle with points is the list of its points
pub rect_is_region : (r : Rect) → HasPoints r → IsRegionOf (λ p. is_in p r) (r ∷ [])
rect_is_region r h = record {
  canonical = record { bands = rect_bands r (rect_columns r); canonical = rect_canonical r h.across h.down; listed = refl };
  points = λ p. or-false (is_in p r);
}

-- without points it is no rectangle
no_point : (r : Rect) → (¬ HasPoints r) → (p : Point) → is_in p r ≡ false
no_point r none p = false_from_ne_true (is_in p r) (λ h. let w : IsIn p r = (is_in-IsIn p r).0 h in
    none (record { across = omega (arith, ints, w.from_left, w.to_right); down = omega (arith, ints, w.from_top, w.to_bottom) }))

no_rects : IsRegion []
no_rects = record { bands = []; canonical = record { reduced = tt; values = tt; ends = refl }; listed = refl }

-- which list has all points of bounds
pub whole_empty : (rects : List Rect) (r : Rect) → (¬ HasPoints r) → IsRegion rects → (rects ≡ [] → (p : Point) → is_in_some p rects ≡ is_in p r) ×
    (((p : Point) → is_in_some p rects ≡ is_in p r) → rects ≡ [])
whole_empty rects r none canonical = (
  λ e p. ap (is_in_some p) e ∙ sym (no_point r none p),
  λ same. region_is_unique rects [] canonical no_rects
      (λ p. same p ∙ no_point r none p),
)

pub whole_rect : (rects : List Rect) (r : Rect) → HasPoints r → IsRegion rects → (rects ≡ r ∷ [] → (p : Point) → is_in_some p rects ≡ is_in p r) ×
    (((p : Point) → is_in_some p rects ≡ is_in p r) → rects ≡ r ∷ [])
whole_rect rects r h canonical = (
  λ e p. ap (is_in_some p) e ∙ or-false (is_in p r),
  λ same. region_is_unique rects (r ∷ []) canonical
      (rect_is_region r h).canonical (λ p. same p ∙ sym (or-false (is_in p r))),
)

-- what the tests of code say

zero_is_empty : (rects : List Rect) → Decides (length rects == 0) (rects ≡ [])
zero_is_empty [] = (λ e. refl, λ e. refl)
zero_is_empty (r ∷ rects) = (λ e. absurd (omega (arith, (Decides-eqb (length (r ∷ rects)) 0).0 e)), λ e. absurd (omega (arith, ap length e)))

pub empty_is_whole : (rects : List Rect) (r : Rect) (t : Bool) → t ≡ (length rects == 0) → (¬ HasPoints r) → IsRegion rects →
    (IsTrue t → (p : Point) → is_in_some p rects ≡ is_in p r) × (((p : Point) → is_in_some p rects ≡ is_in p r) → IsTrue t)
empty_is_whole rects r t e none canonical =
    let w = whole_empty rects r none canonical in
    rw e (λ h. w.0 ((zero_is_empty rects).0 h), λ same. (zero_is_empty rects).1 (w.1 same))

pub rect_decides : (a b : Rect) → Decides (int_eq a.left b.left && (int_eq a.top b.top && (int_eq a.right b.right && int_eq a.bottom b.bottom))) (a ≡ b)
rect_decides a b = Decides-like (int_eq a.left b.left && (int_eq a.top b.top && (int_eq a.right b.right && int_eq a.bottom b.bottom)))
    (λ h. same_edges a b (h.0) (h.1.0) (h.1.1.0) (h.1.1.1))
    (λ e. (ap (λ (r : Rect). r.left) e, (ap (λ (r : Rect). r.top) e, (ap (λ (r : Rect). r.right) e, ap (λ (r : Rect). r.bottom) e))))
    (Decides-and (int_eq a.left b.left) (int_eq a.top b.top && (int_eq a.right b.right && int_eq a.bottom b.bottom)) (Decides-int_eq a.left b.left)
    (Decides-and (int_eq a.top b.top) (int_eq a.right b.right && int_eq a.bottom b.bottom) (Decides-int_eq a.top b.top)
    (Decides-and (int_eq a.right b.right) (int_eq a.bottom b.bottom) (Decides-int_eq a.right b.right) (Decides-int_eq a.bottom b.bottom))))

pub single : (rects : List Rect) (d : Rect) → 1 ≤ length rects → length rects < 2 → rects ≡ get_or rects 0 d ∷ []
single [] d h k = absurd (omega (arith, h))
single (r ∷ []) d h k = refl
single (r ∷ s ∷ rects) d h k = absurd (omega (arith, k))

pub one_is_whole : (rects : List Rect) (r d : Rect) (t : Bool) → t ≡ (int_eq (get_or rects 0 d).left r.left &&
    (int_eq (get_or rects 0 d).top r.top && (int_eq (get_or rects 0 d).right r.right && int_eq (get_or rects 0 d).bottom r.bottom))) →
    1 ≤ length rects → length rects < 2 → HasPoints r → IsRegion rects → (IsTrue t → (p : Point) → is_in_some p rects ≡ is_in p r) ×
    (((p : Point) → is_in_some p rects ≡ is_in p r) → IsTrue t)
one_is_whole rects r d t e some few h canonical =
    let w = whole_rect rects r h canonical in
    let c = rect_decides (get_or rects 0 d) r in
    let s : rects ≡ get_or rects 0 d ∷ [] = single rects d some few in
    rw e (λ h. w.0 (s ∙ ap (λ (q : Rect). q ∷ []) (c.0 h)), λ same. c.1 (ap (λ (l : List Rect). get_or l 0 d) (w.1 same)))

pub others_are_not : (rects : List Rect) (r : Rect) → (length rects < 1) ⊎ (2 ≤ length rects) → HasPoints r → IsRegion rects →
    ((p : Point) → is_in_some p rects ≡ is_in p r) → ⊥
others_are_not rects r (inl few) h canonical same = omega (arith, few, ap length ((whole_rect rects r h canonical).1 same))
others_are_not rects r (inr many) h canonical same = omega (arith, many, ap length ((whole_rect rects r h canonical).1 same))

-- as code lists them
pub rect_listed : (r : Rect) (rects : List Rect) → HasPoints r → rects ≡ r ∷ [] → IsRegionOf (λ p. is_in p r) rects
rect_listed r rects h e = rw e (rect_is_region r h)

pub rect_in_order : (r : Rect) (rects : List Rect) → HasPoints r → rects ≡ r ∷ [] → IsInOrder rects
rect_in_order r rects h e = rw e (record {
  order = AllPairs-cons ComesFirst r [] (All-nil (ComesFirst r)) (λ i j d a b. absurd (omega arith));
  points = All-cons HasPoints r [] h (All-nil HasPoints);
})
