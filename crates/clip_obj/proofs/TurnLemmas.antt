-- Bands that are turned round.
use Rattle.std.proofs.Common.{◌≡◌, ◌∙◌, ℤ, List, [], ◌∷◌, ◌++◌, Bool, true, false, cond, refl, ap, sym, ◌⊎◌, inl, inr, reverse}
use Rattle.std.specs.Ordering.{int_eq}
use Rattle.std.specs.List.{All}
use Rattle.std.proofs.lemmas.Bool.{cases_Bool, false_from_ne_true, false≢true}
use Rattle.std.proofs.lemmas.Bool.Decides.{Decides-int_eq}
use Rattle.std.proofs.lemmas.Grind.{reverse_onto}
use Rattle.std.proofs.lemmas.List.{append_assoc}
use Rattle.std.proofs.lemmas.List.Elements.{All-head, All-tail}
use Rattle.std.proofs.lemmas.List.Sorted.{IsPermutation-reverse, All-permutation}
use Rattle.geom_base.specs.declared.rect.Rect.{Rect}
use Rattle.clip_obj.specs.Order.{behind_band, turned}

-- the first rectangle, if any, begins in another row
abbrev pub BeginsElsewhere : ℤ → List Rect → Type 0
BeginsElsewhere top [] = Unit {0}
BeginsElsewhere top (r ∷ rects) = ¬ (r.top ≡ top)

-- the test of two rows
pub same_row : (a b : ℤ) → a ≡ b → int_eq a b ≡ true
same_row a b e = (Decides-int_eq a b).1 e

pub other_row : (a b : ℤ) → (¬ (a ≡ b)) → int_eq a b ≡ false
other_row a b n = false_from_ne_true (int_eq a b) (λ t. n ((Decides-int_eq a b).0 t))

-- either the first one begins in the row, or it doesn't
pub by_row : (a b : ℤ) → (a ≡ b) ⊎ (¬ (a ≡ b))
by_row a b = elim (cases_Bool (int_eq a b)) [
  | inl e ↦ inl ((Decides-int_eq a b).0 e)
  | inr e ↦ inr (λ same. false≢true (sym e ∙ (Decides-int_eq a b).1 same))
]

-- a rectangle passes those of its row
passes : (r : Rect) (xs ys : List Rect) → All (λ s. s.top ≡ r.top) xs → behind_band r (xs ++ ys) ≡ xs ++ behind_band r ys
passes r [] ys h = refl
passes r (s ∷ xs) ys h =
    ap (λ (t : Bool). cond t (s ∷ behind_band r (xs ++ ys)) (r ∷ s ∷ (xs ++ ys))) (same_row s.top r.top (All-head (λ t. t.top ≡ r.top) s xs h))
    ∙ ap (λ (l : List Rect). s ∷ l) (passes r xs ys (All-tail (λ t. t.top ≡ r.top) s xs h))

-- and stays before others
pub stays : (r : Rect) (ys : List Rect) → BeginsElsewhere r.top ys → behind_band r ys ≡ r ∷ ys
stays r [] h = refl
stays r (s ∷ ys) h = ap (λ (t : Bool). cond t (s ∷ behind_band r ys) (r ∷ s ∷ ys)) (other_row s.top r.top h)

begins_by : (s t : Rect) (top : ℤ) (b : Bool) (xs ys : List Rect) → int_eq t.top s.top ≡ b → (¬ (s.top ≡ top)) → BeginsElsewhere top (cond b (t ∷ xs) (s ∷ ys))
begins_by s t top true xs ys e n = λ same. n (sym ((Decides-int_eq t.top s.top).0 e) ∙ same)
begins_by s t top false xs ys e n = n

-- turning keeps the row in which the first one begins
pub turned_begins : (top : ℤ) (rects : List Rect) → BeginsElsewhere top rects → BeginsElsewhere top (turned rects)
turned_begins top [] h = tt
turned_begins top (s ∷ rects) h = first (turned rects)
  where
    first : (xs : List Rect) → BeginsElsewhere top (behind_band s xs)
    first [] = h
    first (t ∷ xs) = begins_by s t top (int_eq t.top s.top) (behind_band s xs) (t ∷ xs) refl h

-- a band and the rest are turned one after the other
pub turned_band : (top : ℤ) (band rest : List Rect) → All (λ r. r.top ≡ top) band → BeginsElsewhere top rest →
    turned (band ++ rest) ≡ reverse band ++ turned rest
turned_band top [] rest h n = refl
turned_band top (r ∷ band) rest h n =
    let row : r.top ≡ top = All-head (λ s. s.top ≡ top) r band h in
    let others : All (λ s. s.top ≡ top) band = All-tail (λ s. s.top ≡ top) r band h in
    let back : All (λ s. s.top ≡ r.top) (reverse band) = All-permutation (λ s. s.top ≡ r.top) band (reverse band) (IsPermutation-reverse band)
    (λ k d lt. others k d lt ∙ sym row) in
    ap (behind_band r) (turned_band top band rest others n)
    ∙ passes r (reverse band) (turned rest) back
    ∙ ap (λ (l : List Rect). reverse band ++ l) (stays r (turned rest) (rw row (turned_begins top rest n)))
    ∙ sym (append_assoc (reverse band) (r ∷ []) (turned rest))
    ∙ ap (λ (l : List Rect). l ++ turned rest) (sym (reverse_onto band r []))
