-- Laws of the orders of rectangles.
use Rattle.std.proofs.Common.{suc, ◌<ℤ◌, ◌≤ℤ◌, List, [], ◌∷◌, Bool, true, false, cond, arith, inl, inr, get_or, reverse}
use Rattle.std.specs.Ordering.{int_eq}
use Rattle.std.specs.List.{All, AllPairs}
use Rattle.std.specs.List.Sorted.{IsPermutation}
use Rattle.std.proofs.lemmas.Int.{ints}
use Rattle.std.proofs.lemmas.List.Sorted.{IsPermutation-refl, IsPermutation-reverse, IsPermutation-cons}
use Rattle.std.proofs.lemmas.List.Sorted.{IsPermutation-middle, IsPermutation-sym, IsPermutation-trans}
use Rattle.geom_base.specs.declared.rect.Rect.{Rect}
use Rattle.geom_base.specs.Points.{AreApart}
use Rattle.clip_obj.specs.declared.direction.Direction.{Direction}
use Rattle.clip_obj.specs.declared.direction.Direction.TheVariants.{RightDown, LeftDown, RightUp, LeftUp, Any}
use Rattle.clip_obj.specs.Order.{behind_band, turned, ordered, ComesBefore}

-- pairs of a list

pub pairs_head : {X : Type 0} (R : X → X → Type 0) (x : X) (xs : List X) → AllPairs R (x ∷ xs) → All (R x) xs
pairs_head R x xs h = λ k d lt. h 0 (suc k) d (omega arith) (omega arith)

pub pairs_tail : {X : Type 0} (R : X → X → Type 0) (x : X) (xs : List X) → AllPairs R (x ∷ xs) → AllPairs R xs
pairs_tail R x xs h = λ i j d lt within. h (suc i) (suc j) d (omega arith) (omega arith)

pub pairs_weaker : {X : Type 0} (R S : X → X → Type 0) (xs : List X) → ((a b : X) → R a b → S a b) → AllPairs R xs → AllPairs S xs
pairs_weaker R S xs f h = λ i j d lt within. f (get_or xs i d) (get_or xs j d) (h i j d lt within)

-- turning rearranges
behind_rearranges : (r : Rect) (xs : List Rect) → IsPermutation (r ∷ xs) (behind_band r xs)
behind_rearranges r [] = IsPermutation-refl (r ∷ [])
behind_rearranges r (s ∷ xs) = either (behind_rearranges r xs) (int_eq s.top r.top)
  where
    either : IsPermutation (r ∷ xs) (behind_band r xs) → (b : Bool) → IsPermutation (r ∷ s ∷ xs) (cond b (s ∷ behind_band r xs) (r ∷ s ∷ xs))
    either next true = IsPermutation-trans (r ∷ s ∷ xs) (s ∷ r ∷ xs) (s ∷ behind_band r xs)
        (IsPermutation-sym (s ∷ r ∷ xs) (r ∷ s ∷ xs) (IsPermutation-middle (s ∷ []) r xs)) (IsPermutation-cons s (r ∷ xs) (behind_band r xs) next)
    either next false = IsPermutation-refl (r ∷ s ∷ xs)

pub turned_rearranges : (rects : List Rect) → IsPermutation rects (turned rects)
turned_rearranges [] = IsPermutation-refl []
turned_rearranges (r ∷ rects) = IsPermutation-trans (r ∷ rects) (r ∷ turned rects) (behind_band r (turned rects))
    (IsPermutation-cons r rects (turned rects) (turned_rearranges rects)) (behind_rearranges r (turned rects))

-- an order has the rectangles of the list
pub ordered_rearranges : (d : Direction) (rects : List Rect) → IsPermutation rects (ordered d rects)
ordered_rearranges RightDown rects = IsPermutation-refl rects
ordered_rearranges LeftDown rects = turned_rearranges rects
ordered_rearranges RightUp rects = IsPermutation-trans rects (turned rects) (reverse (turned rects)) (turned_rearranges rects)
    (IsPermutation-reverse (turned rects))
ordered_rearranges LeftUp rects = IsPermutation-reverse rects
ordered_rearranges Any rects = IsPermutation-refl rects

-- two rectangles in an order share no point

one_band_apart : (a b : Rect) → a.right <ℤ b.left → AreApart a b
one_band_apart a b h p = grind (arith, ints)

one_band_apart' : (a b : Rect) → b.right <ℤ a.left → AreApart a b
one_band_apart' a b h p = grind (arith, ints)

higher_apart : (a b : Rect) → a.bottom ≤ℤ b.top → AreApart a b
higher_apart a b h p = grind (arith, ints)

lower_apart : (a b : Rect) → b.bottom ≤ℤ a.top → AreApart a b
lower_apart a b h p = grind (arith, ints)

pub before_is_apart : (d : Direction) (a b : Rect) → ComesBefore d a b → AreApart a b
before_is_apart RightDown a b (inl h) = one_band_apart a b h.1
before_is_apart RightDown a b (inr h) = higher_apart a b h
before_is_apart LeftDown a b (inl h) = one_band_apart' a b h.1
before_is_apart LeftDown a b (inr h) = higher_apart a b h
before_is_apart RightUp a b (inl h) = one_band_apart a b h.1
before_is_apart RightUp a b (inr h) = lower_apart a b h
before_is_apart LeftUp a b (inl h) = one_band_apart' a b h.1
before_is_apart LeftUp a b (inr h) = lower_apart a b h
before_is_apart Any a b (inl h) = one_band_apart a b h.1
before_is_apart Any a b (inr h) = higher_apart a b h
