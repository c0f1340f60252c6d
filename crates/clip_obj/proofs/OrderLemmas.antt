-- In which order two rectangles of an enumeration come.
use Rattle.std.proofs.Common.{◌≡◌, ◌∙◌, ◌-◌, ◌<◌, ◌≤ℤ◌, List, [], ◌∷◌, Bool, true, false, cond, sym, arith, ◌⊎◌, inl, inr, length, get_or, reverse}
use Rattle.std.specs.Ordering.{int_eq}
use Rattle.std.specs.List.{All, AllPairs}
use Rattle.std.proofs.lemmas.Int.{ints}
use Rattle.std.proofs.lemmas.List.{get_or-reverse, length-reverse}
use Rattle.std.proofs.lemmas.List.Elements.{All-nil, All-cons, All-head, All-tail}
use Rattle.std.proofs.lemmas.List.Kept.{AllPairs-cons}
use Rattle.std.proofs.lemmas.List.Sorted.{All-permutation}
use Rattle.geom_base.specs.declared.rect.Rect.{Rect}
use Rattle.geom_base.specs.Points.{AreApart, HasPoints}
use Rattle.region.specs.Order.{ComesFirst, IsInOrder}
use Rattle.clip_obj.specs.declared.direction.Direction.{Direction}
use Rattle.clip_obj.specs.declared.direction.Direction.TheVariants.{RightDown, LeftDown, RightUp, LeftUp, Any}
use Rattle.clip_obj.specs.Order.{behind_band, turned, ordered, ComesBefore}
use Rattle.clip_obj.specs.OrderLaws.{before_is_apart, pairs_head, pairs_tail, pairs_weaker, turned_rearranges}
use Rattle.clip_obj.proofs.TurnLemmas.{by_row, same_row, other_row}

pub pairs_reverse : {X : Type 0} (R S : X → X → Type 0) (xs : List X) → ((a b : X) → R a b → S b a) → AllPairs R xs → AllPairs S (reverse xs)
pairs_reverse R S xs f h i j d lt within =
    let long : length (reverse xs) ≡ length xs = length-reverse xs in
    let wj : j < length xs = omega (arith, within, long) in
    rw (get_or-reverse xs i d (omega (arith, wj, lt)), get_or-reverse xs j d wj)
    (f (get_or xs (length xs - 1 - j) d) (get_or xs (length xs - 1 - i) d)
    (h (length xs - 1 - j) (length xs - 1 - i) d (omega (arith, wj, lt)) (omega (arith, wj, lt))))

-- the canonical order, and its turned form

first_is_before : (a b : Rect) → ComesFirst a b → ComesBefore RightDown a b
first_is_before a b (inl h) = inl ((h.0, h.1), h.2)
first_is_before a b (inr h) = inr h

-- rectangles in it share no point
pub first_is_apart : (a b : Rect) → ComesFirst a b → AreApart a b
first_is_apart a b h = before_is_apart RightDown a b (first_is_before a b h)

passed : (r s : Rect) → s.top ≡ r.top → HasPoints r → ComesFirst r s → ComesBefore LeftDown s r
passed r s e points (inl h) = inl ((sym (h.0), sym (h.1)), h.2)
passed r s e points (inr h) = absurd (omega (arith, ints, h, e, points.down))

before_other : (r s : Rect) → (¬ (s.top ≡ r.top)) → ComesFirst r s → r.bottom ≤ℤ s.top
before_other r s n (inl h) = absurd (n (sym (h.0)))
before_other r s n (inr h) = h

before_later : (r s t : Rect) → (¬ (s.top ≡ r.top)) → HasPoints r → HasPoints s → ComesFirst r s → ComesFirst r t → ComesBefore LeftDown s t →
    ComesBefore LeftDown r t
before_later r s t n pr ps rs (inr h) st = inr h
before_later r s t n pr ps rs (inl h) (inl st) = absurd (n (st.0.0 ∙ sym (h.0)))
before_later r s t n pr ps rs (inl h) (inr st) = absurd (omega (arith, ints, before_other r s n rs, st, h.0, pr.down, ps.down))

all_before : (r s : Rect) (xs : List Rect) → (¬ (s.top ≡ r.top)) → HasPoints r → HasPoints s → ComesFirst r s → All (ComesFirst r) xs →
    All (ComesBefore LeftDown s) xs → All (ComesBefore LeftDown r) xs
all_before r s xs n pr ps rs later after = λ k d lt. before_later r s (get_or xs k d) n pr ps rs (later k d lt) (after k d lt)

behind_all : (P : Rect → Type 0) (r : Rect) (xs : List Rect) → P r → All P xs → All P (behind_band r xs)
behind_all P r [] h all = All-cons P r [] h (All-nil P)
behind_all P r (s ∷ xs) h all = either (behind_all P r xs h (All-tail P s xs all)) (int_eq s.top r.top)
  where
    either : All P (behind_band r xs) → (b : Bool) → All P (cond b (s ∷ behind_band r xs) (r ∷ s ∷ xs))
    either next true = All-cons P s (behind_band r xs) (All-head P s xs all) next
    either next false = All-cons P r (s ∷ xs) h all

behind_order : (r : Rect) (xs : List Rect) → HasPoints r → All HasPoints xs → All (ComesFirst r) xs → AllPairs (ComesBefore LeftDown) xs →
    AllPairs (ComesBefore LeftDown) (behind_band r xs)
behind_order r [] pr points later order = AllPairs-cons (ComesBefore LeftDown) r [] (All-nil (ComesBefore LeftDown r)) order
behind_order r (s ∷ xs) pr points later order =
    either (behind_order r xs pr (All-tail HasPoints s xs points) (All-tail (ComesFirst r) s xs later) (pairs_tail (ComesBefore LeftDown) s xs order))
    (by_row s.top r.top)
  where
    first : ComesFirst r s
    first = All-head (ComesFirst r) s xs later

    after : All (ComesBefore LeftDown s) xs
    after = pairs_head (ComesBefore LeftDown) s xs order

    either : AllPairs (ComesBefore LeftDown) (behind_band r xs) → (s.top ≡ r.top) ⊎ (¬ (s.top ≡ r.top)) →
        AllPairs (ComesBefore LeftDown) (behind_band r (s ∷ xs))
    either next (inl e) = rw (same_row s.top r.top e)
        (AllPairs-cons (ComesBefore LeftDown) s (behind_band r xs) (behind_all (ComesBefore LeftDown s) r xs (passed r s e pr first) after) next)
    either next (inr n) = rw (other_row s.top r.top n) (AllPairs-cons (ComesBefore LeftDown) r (s ∷ xs)
        (All-cons (ComesBefore LeftDown r) s xs (inr (before_other r s n first))
        (all_before r s xs n pr (All-head HasPoints s xs points) first (All-tail (ComesFirst r) s xs later) after))
        order)

turned_order : (rects : List Rect) → AllPairs ComesFirst rects → All HasPoints rects → AllPairs (ComesBefore LeftDown) (turned rects)
turned_order [] order points = λ i j d lt within. absurd (omega (arith, within))
turned_order (r ∷ rects) order points =
    behind_order r (turned rects) (All-head HasPoints r rects points)
    (All-permutation HasPoints rects (turned rects) (turned_rearranges rects) (All-tail HasPoints r rects points))
    (All-permutation (ComesFirst r) rects (turned rects) (turned_rearranges rects) (pairs_head ComesFirst r rects order))
    (turned_order rects (pairs_tail ComesFirst r rects order) (All-tail HasPoints r rects points))

-- backwards
back_of_right : (a b : Rect) → ComesFirst a b → ComesBefore LeftUp b a
back_of_right a b (inl h) = inl ((sym (h.0), sym (h.1)), h.2)
back_of_right a b (inr h) = inr h

back_of_left : (a b : Rect) → ComesBefore LeftDown a b → ComesBefore RightUp b a
back_of_left a b (inl h) = inl ((sym (h.0.0), sym (h.0.1)), h.1)
back_of_left a b (inr h) = inr h

-- every order is one
pub ordered_order : (d : Direction) (rects : List Rect) → IsInOrder rects → AllPairs (ComesBefore d) (ordered d rects)
ordered_order RightDown rects h = pairs_weaker ComesFirst (ComesBefore RightDown) rects first_is_before h.order
ordered_order LeftDown rects h = turned_order rects h.order h.points
ordered_order RightUp rects h = pairs_reverse (ComesBefore LeftDown) (ComesBefore RightUp) (turned rects) back_of_left (turned_order rects h.order h.points)
ordered_order LeftUp rects h = pairs_reverse ComesFirst (ComesBefore LeftUp) rects back_of_right h.order
ordered_order Any rects h = pairs_weaker ComesFirst (ComesBefore RightDown) rects first_is_before h.order
