-- Rectangles in order before a place and after it.
use Rattle.std.proofs.Common.{◌≡◌, ◌∙◌, ℕ, ◌<◌, ◌≤◌, zero, suc, ℤ, ◌<ℤ◌, ◌≤ℤ◌, List, [], ◌∷◌, take, drop, length, get_or, ◌⊎◌, inl, inr}
use Rattle.std.proofs.Common.{true, false, ap, sym, subst, arith, int_le}
use Rattle.std.proofs.Math.Nat.{eq-or-lt_of_le}
use Rattle.std.specs.List.{All, AllPairs}
use Rattle.std.specs.List.Sorted.{IsPartitionPoint, IsPartitionedBy}
use Rattle.std.proofs.lemmas.Int.{ints}
use Rattle.std.proofs.lemmas.List.{get_or-take, length-take, length-take-le}
use Rattle.std.proofs.lemmas.List.Kept.{AllPairs-cons}
use Rattle.std.proofs.lemmas.List.Elements.{All-cons, All-take, All-weaker}
use Rattle.geom_base.specs.declared.rect.Rect.{Rect}
use Rattle.geom_base.specs.Points.{no_rect}
use Rattle.region.specs.declared.search.Edge.{Edge}
use Rattle.region.specs.InnerSearch.{edge_of, AreSorted}

-- pairs of a part of a list

pub pairs_head : {X : Type 0} (R : X → X → Type 0) (x : X) (xs : List X) → AllPairs R (x ∷ xs) → All (R x) xs
pairs_head R x xs h = λ k d lt. h 0 (suc k) d (omega arith) (omega (arith, lt))

pairs_tail : {X : Type 0} (R : X → X → Type 0) (x : X) (xs : List X) → AllPairs R (x ∷ xs) → AllPairs R xs
pairs_tail R x xs h = λ i j d a b. h (suc i) (suc j) d (omega (arith, a)) (omega (arith, b))

pub pairs_drop : {X : Type 0} (R : X → X → Type 0) (n : ℕ) (xs : List X) → AllPairs R xs → AllPairs R (drop n xs)
pairs_drop R zero xs h = h
pairs_drop R (suc n) [] h = h
pairs_drop R (suc n) (x ∷ xs) h = pairs_drop R n xs (pairs_tail R x xs h)

pub pairs_take : {X : Type 0} (R : X → X → Type 0) (n : ℕ) (xs : List X) → AllPairs R xs → AllPairs R (take n xs)
pairs_take R zero xs h = λ i j d a b. absurd (omega arith)
pairs_take R (suc n) [] h = h
pairs_take R (suc n) (x ∷ xs) h =
    AllPairs-cons R x (take n xs) (All-take (R x) n xs (pairs_head R x xs h)) (pairs_take R n xs (pairs_tail R x xs h))

-- what a binary search asks

le_below : (a b y : ℤ) → a ≤ℤ b → int_le b y ≡ true → int_le a y ≡ true
le_below a b y h e = grind (arith, ints)

begun_by : (a y : ℤ) → int_le a y ≡ true → a ≤ℤ y
begun_by a y e = grind (arith, ints)

not_begun_by : (a y : ℤ) → int_le a y ≡ false → y <ℤ a
not_begun_by a y e = grind (arith, ints)

rises : (edge : Edge) (rects : List Rect) (i j : ℕ) (d : Rect) → AreSorted edge rects → (i ≡ j) ⊎ (i < j) → j < length rects →
    edge_of edge (get_or rects i d) ≤ℤ edge_of edge (get_or rects j d)
rises edge rects i j d h (inl e) lt = rw e (omega (arith, ints))
rises edge rects i j d h (inr below) lt = h i j d below lt

pub sorted_is_parted : (edge : Edge) (rects : List Rect) (y : ℤ) → AreSorted edge rects → IsPartitionedBy (λ r. int_le (edge_of edge r) y) rects
sorted_is_parted edge rects y h i j d le lt e =
    le_below (edge_of edge (get_or rects i d)) (edge_of edge (get_or rects j d)) y (rises edge rects i j d h (eq-or-lt_of_le le) lt) e

pub sorted_take : (edge : Edge) (n : ℕ) (rects : List Rect) → AreSorted edge rects → AreSorted edge (take n rects)
sorted_take edge n rects h = pairs_take (λ a b. edge_of edge a ≤ℤ edge_of edge b) n rects h

-- all from one on are later where it is
pub later_from : (edge : Edge) (rects : List Rect) (y : ℤ) (n : ℕ) (d : Rect) → AreSorted edge rects → n < length rects →
    y <ℤ edge_of edge (get_or rects n d) → All (λ r. y <ℤ edge_of edge r) (drop n rects)
later_from edge [] y n d h lt later = absurd (omega (arith, lt))
later_from edge (r ∷ rects) y zero d h lt later =
    All-cons (λ q. y <ℤ edge_of edge q) r rects later
    (All-weaker (λ q. edge_of edge r ≤ℤ edge_of edge q) (λ q. y <ℤ edge_of edge q) (λ q le. omega (arith, ints, le, later)) rects
    (pairs_head (λ a b. edge_of edge a ≤ℤ edge_of edge b) r rects h))
later_from edge (r ∷ rects) y (suc n) d h lt later =
    later_from edge rects y n d (pairs_tail (λ a b. edge_of edge a ≤ℤ edge_of edge b) r rects h) (omega (arith, lt)) later

-- what it finds in the first of them

abbrev pub IsFound : Edge → ℤ → List Rect → ℕ → Type 0
IsFound edge y rects n = IsPartitionPoint (λ r. int_le (edge_of edge r) y ≡ true) (λ r. int_le (edge_of edge r) y ≡ false) rects n

pub found_before : (edge : Edge) (rects near : List Rect) (y : ℤ) (m n : ℕ) → near ≡ take m rects → m ≤ length rects → n ≤ length near →
    IsFound edge y near n → All (λ r. edge_of edge r ≤ℤ y) (take n rects)
found_before edge rects near y m n e bound le h = λ k d lt.
    let short : length near ≡ m = ap length e ∙ length-take-le m rects bound in
    let below : k < n = omega (arith, lt, length-take n rects) in
    let within : k < m = omega (arith, below, le, short) in
    let same : get_or near k d ≡ get_or rects k d = ap (λ l. get_or l k d) e ∙ get_or-take m rects k d within in
    subst (λ r. edge_of edge r ≤ℤ y) (sym (get_or-take n rects k d below))
    (begun_by (edge_of edge (get_or rects k d)) y (subst (λ r. int_le (edge_of edge r) y ≡ true) same (h.0 k d (omega arith) below)))

found_at : (edge : Edge) (rects near : List Rect) (y : ℤ) (m n : ℕ) → AreSorted edge rects → near ≡ take m rects → m ≤ length rects →
    All (λ r. y <ℤ edge_of edge r) (drop m rects) → IsFound edge y near n → (n ≡ length near) ⊎ (n < length near) →
    All (λ r. y <ℤ edge_of edge r) (drop n rects)
found_at edge rects near y m n s e bound later h (inl all) =
    let short : length near ≡ m = ap length e ∙ length-take-le m rects bound in
    subst (λ i. All (λ r. y <ℤ edge_of edge r) (drop i rects)) (sym (all ∙ short)) later
found_at edge rects near y m n s e bound later h (inr lt) =
    let short : length near ≡ m = ap length e ∙ length-take-le m rects bound in
    let same : get_or near n no_rect ≡ get_or rects n no_rect = ap (λ l. get_or l n no_rect) e ∙ get_or-take m rects n no_rect (omega (arith, lt, short)) in
    later_from edge rects y n no_rect s (omega (arith, lt, short, bound))
    (not_begun_by (edge_of edge (get_or rects n no_rect)) y
    (subst (λ r. int_le (edge_of edge r) y ≡ false) same (h.1 n no_rect (omega arith) lt)))

pub found_later : (edge : Edge) (rects near : List Rect) (y : ℤ) (m n : ℕ) → AreSorted edge rects → near ≡ take m rects → m ≤ length rects →
    All (λ r. y <ℤ edge_of edge r) (drop m rects) → n ≤ length near → IsFound edge y near n → All (λ r. y <ℤ edge_of edge r) (drop n rects)
found_later edge rects near y m n s e bound later le h = found_at edge rects near y m n s e bound later h (eq-or-lt_of_le le)
