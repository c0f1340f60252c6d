-- Rectangles one after the other are one step.
use Rattle.std.proofs.Common.{◌≡◌, ◌∙◌, ℕ, ◌<◌, ◌≤◌, pos, Bool, true, false, ◌&&◌, List, [], ◌∷◌, ◌++◌}
use Rattle.std.proofs.Common.{length, get_or, refl, sym, arith, zero-add, ◌⊎◌, inl, inr, IsTrue, unsigned_abs}
use Rattle.std.specs.List.{All}
use Rattle.std.specs.List.Sorted.{IsPermutation}
use Rattle.std.proofs.lemmas.Bool.{false≢true, cases_lt, or_cases}
use Rattle.std.proofs.lemmas.Int.{ints}
use Rattle.std.proofs.lemmas.Nat.{div-mul-add, mod-mul-add}
use Rattle.std.proofs.lemmas.List.{get_or_past}
use Rattle.std.proofs.lemmas.List.Elements.{All-head, All-tail}
use Rattle.std.proofs.lemmas.List.Sorted.{list_any-IsPermutation}
use Rattle.geom_base.specs.declared.point.Point.{Point}
use Rattle.geom_base.specs.declared.rect.Rect.{Rect}
use Rattle.geom_base.specs.declared.size.Size.{Size}
use Rattle.geom_base.specs.Points.{IsIn, is_in, is_in_some, AreApart, whole}
use Rattle.geom_base.specs.PointLaws.{is_in-IsIn}
use Rattle.geom_base.specs.Tests.{pos-unsigned_abs}
use Rattle.geom_base.specs.Step.{Change, step_at, redrawn}
use Rattle.geom_base.specs.StepLaws.{redrawn_two, redrawn_nowhere, redrawn_ext, get_or-map_from, length-redrawn}
use Rattle.geom_base.specs.Grid.{value_of_point, place_of, point_of}
use Rattle.clip_obj.specs.OrderLaws.{pairs_head, pairs_tail}
use Rattle.eng_calls.specs.Steps.{Rule, step_by_step, IsUnaffected, StepsAreOne}

-- a point in one of some rectangles is in one that is so
pub in_some : (R : Rect → Type 0) (Q : Type 0) (p : Point) (rects : List Rect) → All R rects → is_in_some p rects ≡ true →
    ((b : Rect) → R b → is_in p b ≡ true → Q) → Q
in_some R Q p [] all h f = absurd (false≢true h)
in_some R Q p (r ∷ rects) all h f = found (or_cases (is_in p r) (is_in_some p rects) h) (λ k. in_some R Q p rects (All-tail R r rects all) k f)
  where
    found : (is_in p r ≡ true) ⊎ (is_in_some p rects ≡ true) → (is_in_some p rects ≡ true → Q) → Q
    found (inl here) next = f r (All-head R r rects all) here
    found (inr there) next = next there

not_both : (a b : Bool) → (a && b) ≡ false → b ≡ true → a ≡ false
not_both true true h e = h
not_both true false h e = absurd (false≢true e)
not_both false b h e = refl

-- the heart: from the last rectangle on, what is drawn in the first one takes nothing from the others
pub steps_are_one : StepsAreOne
steps_are_one size rule [] values apart keeps = sym (redrawn_nowhere size values (rule values))
steps_are_one size rule (r ∷ rects) values apart keeps =
    let next : List ℕ = redrawn size values (λ p. is_in p r) (rule values) in
    steps_are_one size rule rects next (pairs_tail AreApart r rects apart) (pairs_tail (IsUnaffected size rule) r rects keeps)
    ∙ redrawn_two size values (λ p. is_in p r) (λ p. is_in_some p rects) (rule values) (rule next) (rule values)
    (λ p h. in_some (AreApart r) (is_in p r ≡ false) p rects (pairs_head AreApart r rects apart) h (λ b a here. not_both (is_in p r) (is_in p b) (a p) here))
    (λ p v h. refl)
    (λ p v h. in_some (IsUnaffected size rule r) (rule next p v ≡ rule values p v) p rects (pairs_head (IsUnaffected size rule) r rects keeps) h
    (λ b k here. k values (rule values) p v here))

-- rectangles after others
pub steps-append : (size : Size) (rule : Rule) (xs ys : List Rect) (values : List ℕ) →
    step_by_step size rule (xs ++ ys) values ≡ step_by_step size rule ys (step_by_step size rule xs values)
steps-append size rule [] ys values = refl
steps-append size rule (x ∷ xs) ys values = steps-append size rule xs ys (redrawn size values (λ p. is_in p x) (rule values))

-- an area by the same points, and a rule by the same values
pub redrawn_alike : (size : Size) (values : List ℕ) (a b : Point → Bool) (f g : Change) → ((p : Point) → a p ≡ b p) → ((p : Point) (d : ℕ) → f p d ≡ g p d) →
    redrawn size values a f ≡ redrawn size values b g
redrawn_alike size values a b f g areas rules = redrawn_ext size values a b f g
    (λ i lt. rw (areas (point_of size.w i), rules (point_of size.w i) (get_or values i 0)) refl)

pub same_area : (rects others : List Rect) → IsPermutation rects others → (p : Point) → is_in_some p others ≡ is_in_some p rects
same_area rects others h p = sym (list_any-IsPermutation (λ r. is_in p r) rects others h)

-- a point that was not drawn has its value
pub value_kept : (size : Size) (values : List ℕ) (area : Point → Bool) (new : Change) (q : Point) → IsTrue (is_in q (whole size)) → area q ≡ false →
    value_of_point size (redrawn size values area new) q ≡ value_of_point size values q
unfolding redrawn
value_kept size values area new q inside outside = at (cases_lt (place_of size q) (length values))
  where
    w : IsIn q (whole size)
    w = (is_in-IsIn q (whole size)).0 inside

    ex : pos (unsigned_abs q.x) ≡ q.x
    ex = pos-unsigned_abs q.x w.from_left

    ey : pos (unsigned_abs q.y) ≡ q.y
    ey = pos-unsigned_abs q.y w.from_top

    below : unsigned_abs q.x < size.w
    below = omega (arith, ints, ex, w.to_right)

    here : point_of size.w (place_of size q) ≡ q
    here = rw (mod-mul-add (unsigned_abs q.y) size.w (unsigned_abs q.x) below, div-mul-add (unsigned_abs q.y) size.w (unsigned_abs q.x) below, ex, ey) refl

    at : (place_of size q < length values) ⊎ (length values ≤ place_of size q) →
        value_of_point size (redrawn size values area new) q ≡ value_of_point size values q
    at (inl lt) = get_or-map_from (step_at size.w area new) 0 values (place_of size q) lt ∙ rw (zero-add, here, outside) refl
    at (inr past) = get_or_past (redrawn size values area new) (place_of size q) 0 (rw (length-redrawn size values area new) past)
        ∙ sym (get_or_past values (place_of size q) 0 past)
