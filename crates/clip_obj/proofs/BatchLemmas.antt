-- Rectangles that are put into the first places one after the other.
use Rattle.std.proofs.Common.{◌≡◌, ◌∙◌, ℕ, ◌+◌, ◌-◌, ◌<◌, ◌≤◌, zero, suc, List, [], ◌∷◌, ◌++◌, take, drop, length}
use Rattle.std.proofs.Common.{get_or, set, refl, ap, sym, arith, reverse, IsTrue, nat_lt}
use Rattle.std.proofs.lemmas.List.{get_or-reverse, get_or-drop, length-drop}
use Rattle.std.proofs.lemmas.Bool.Decides.{nat_tests}
use Rattle.std.proofs.lemmas.List.Sorted.{length_permutation}
use Rattle.geom_base.specs.declared.rect.Rect.{Rect}
use Rattle.geom_base.specs.Points.{no_rect}
use Rattle.clip_obj.specs.declared.direction.Direction.{Direction}
use Rattle.clip_obj.specs.declared.direction.Direction.TheVariants.{LeftDown}
use Rattle.clip_obj.specs.Order.{ordered, turned}
use Rattle.clip_obj.specs.OrderLaws.{ordered_rearranges}

pub length-ordered : (d : Direction) (rects : List Rect) → length (ordered d rects) ≡ length rects
length-ordered d rects = length_permutation rects (ordered d rects) (ordered_rearranges d rects)

-- one place more
set_next : {X : Type 0} (i : ℕ) (xs out : List X) (d : X) → i < length xs → i < length out →
    set (take i xs ++ drop i out) i (get_or xs i d) ≡ take (suc i) xs ++ drop (suc i) out
set_next i [] out d lt within = absurd (omega (arith, lt))
set_next i (x ∷ xs) [] d lt within = absurd (omega (arith, within))
set_next zero (x ∷ xs) (o ∷ out) d lt within = refl
set_next (suc i) (x ∷ xs) (o ∷ out) d lt within = ap (λ l. x ∷ l) (set_next i xs out d (omega (arith, lt)) (omega (arith, within)))

pub batch_next : (d : Direction) (rects first out : List Rect) (from len i : ℕ) (r : Rect) → i < len → from + len ≤ length rects → len ≤ length first →
    out ≡ take i (drop from (ordered d rects)) ++ drop i first → r ≡ get_or (ordered d rects) (from + i) no_rect →
    set out i r ≡ take (i + 1) (drop from (ordered d rects)) ++ drop (i + 1) first
batch_next d rects first out from len i r lt fits places so is =
    let long : length (drop from (ordered d rects)) ≡ length rects - from = length-drop from (ordered d rects)
    ∙ ap (λ (n : ℕ). n - from) (length-ordered d rects) in
    let e : i + 1 ≡ suc i = omega arith in
    let value : r ≡ get_or (drop from (ordered d rects)) i no_rect = is ∙ sym (get_or-drop from (ordered d rects) i no_rect) in
    rw (so, value, e) (set_next i (drop from (ordered d rects)) first no_rect (omega (arith, long, fits, lt)) (omega (arith, lt, places)))

-- how many are left
pub length-left : (d : Direction) (rects : List Rect) (done : ℕ) → length (drop done (ordered d rects)) ≡ length rects - done
length-left d rects done = length-drop done (ordered d rects) ∙ ap (λ (n : ℕ). n - done) (length-ordered d rects)

pub more_left : (d : Direction) (rects : List Rect) (done n left : ℕ) → left ≡ length rects - done →
    (IsTrue (nat_lt n left) → 0 < length (drop (done + n) (ordered d rects))) × (0 < length (drop (done + n) (ordered d rects)) → IsTrue (nat_lt n left))
more_left d rects done n left e =
    let long : length (drop (done + n) (ordered d rects)) ≡ length rects - (done + n) = length-left d rects (done + n) in
    rw long (tested (length rects) done n left e)
  where
    tested : (l done n left : ℕ) → left ≡ l - done → (IsTrue (nat_lt n left) → 0 < l - (done + n)) × (0 < l - (done + n) → IsTrue (nat_lt n left))
    tested l done n left e = (λ h. grind (arith, nat_tests), λ h. grind (arith, nat_tests))

-- from the last one
pub turned_back : (rects : List Rect) (i : ℕ) → i < length rects → get_or (turned rects) (length rects - 1 - i) no_rect ≡ get_or (reverse (turned rects)) i
    no_rect
turned_back rects i lt =
    ap (λ n. get_or (turned rects) (n - 1 - i) no_rect) (sym (length-ordered LeftDown rects))
    ∙ sym (get_or-reverse (turned rects) i no_rect (rw (length-ordered LeftDown rects) lt))
